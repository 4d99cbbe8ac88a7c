use Rattle.std.proofs.Common.{◌<◌, length, ◌∙◌, arith}
use Rattle.vcd_trace.proofs.TextLaws.{vector_changes-turn}
use Rattle.pio_edge.proofs.PutLaws.{takes_failed, going_on}
use Rattle.vcd_trace.proofs.changes.put_changed_vectors.Goals as goal

pub returns-in_err-put_changed-clause-bytes : goal.returns-in_err-put_changed-clause-bytes
returns-in_err-put_changed-clause-bytes g c =
    let i = c.loop-place.place in
    let before = c.args.before.now in
    let now = c.args.now.now in
    let in_before : i < length before = omega arith in
    let in_now : i < length now = omega arith in
    takes_failed _ _ _ _ _ _ _ c.from_residual.result c.loop-place.invariant.going (vector_changes-turn c.args.first i before now in_before in_now) c.from_residual.ensures.0 c.in_err-put_changed.ensures.bytes

pub loop-place-preserved : goal.loop-place-preserved
loop-place-preserved g c =
    let i = c.loop-place.place in
    let before = c.args.before.now in
    let now = c.args.now.now in
    let in_before : i < length before = omega arith in
    let in_now : i < length now = omega arith in
    record {
      going = going_on _ _ _ _ _ _ _ c.loop-place.invariant.going (vector_changes-turn c.args.first i before now in_before in_now) c.in_ok-put_changed.ensures.bytes;
      counts = c.in_ok-put_changed.ensures.cause.ok ∙ c.loop-place.invariant.counts;
    }
