use Rattle.std.proofs.Common.{◌-◌, ◌≤◌, drop, ap, ◌∙◌, arith}
use Rattle.vcd_trace.proofs.PlaceLaws.{place-room}
use Rattle.vcd_trace.proofs.place_lines.PlaceLines.new.Goals as goal

pub overflow_sub-result-2 : goal.overflow_sub-result-2
overflow_sub-result-2 c =
    let w = c.write_vector-start in
    let v = c.write_vector-second in
    let both = place-room c.args.first c.args.pc c.args.instruction c.from-2.result c.from.result v.new.line w.new.line v.result w.result c.from-2.ensures c.from.ensures (omega arith) (omega arith) (omega arith) (omega (arith, w.ensures.before, v.ensures.before)) v.ensures.text w.ensures.text in
    both.0

pub returns : goal.returns
returns c =
    let w = c.write_vector-start in
    let v = c.write_vector-second in
    let both = place-room c.args.first c.args.pc c.args.instruction c.from-2.result c.from.result v.new.line w.new.line v.result w.result c.from-2.ensures c.from.ensures (omega arith) (omega arith) (omega arith) (omega (arith, w.ensures.before, v.ensures.before)) v.ensures.text w.ensures.text in
    let within : w.result - 40 ≤ 34 = omega (arith, w.ensures.before, v.ensures.before) in
    let text = ap (drop (w.result - 40)) c.copy_from_slice.ensures.after ∙ both.1 in
    record { own = record { within = within; text = text }; lines = record { within = within; text = text } }
