use Rattle.std.proofs.Common.{sym, ap, ◌∙◌, ◌++◌, refl}
use Rattle.pio_edge.specs.Edge.{with_bytes}
use Rattle.pio_edge.proofs.PutLaws.{going_begins, going_on, takes_failed, with_bytes-nil}
use Rattle.vcd_trace.specs.Groups.{bit_changes}
use Rattle.vcd_trace.specs.VcdText.{changes_over}
use Rattle.vcd_trace.specs.InsideText.{machines_changes}
use Rattle.vcd_trace.proofs.InsideSame.{inside_step-parts, inside_step-same, inside-whole, same_inside-equal}
use Rattle.vcd_trace.proofs.TextLaws.{going_done_last, going_failed_last}
use Rattle.vcd_trace.proofs.inside_vcd.put_others.Goals as goal

pub returns-then-is_same_inside-clause-bytes : goal.returns-then-is_same_inside-clause-bytes
returns-then-is_same_inside-clause-bytes g c =
    let taken = g.S.Sink.taken c.args.sink.now in
    let none = inside_step-same c.args.clock c.args.last.now c.args.now.now (sym c.is_same_inside.ensures ∙ c.if-is_same_inside.true) in
    sym (ap (with_bytes taken) none ∙ with_bytes-nil taken)

pub returns-then-is_same_inside-clause-kept : goal.returns-then-is_same_inside-clause-kept
returns-then-is_same_inside-clause-kept g c =
    same_inside-equal c.args.last.now c.args.now.now (sym c.is_same_inside.ensures ∙ c.if-is_same_inside.true)

pub returns-in_err-put-clause-bytes : goal.returns-in_err-put-clause-bytes
returns-in_err-put-clause-bytes g c =
    let a = c.args in
    let text = inside_step-parts a.clock a.last.now a.now.now (sym c.is_same_inside.ensures ∙ c.if-is_same_inside.false) in
    takes_failed _ _ _ _ _ _ _ c.from_residual.result (going_begins _ _) text c.from_residual.ensures.0 c.in_err-put.ensures.bytes

pub returns-in_err-put_next-clause-bytes : goal.returns-in_err-put_next-clause-bytes
returns-in_err-put_next-clause-bytes g c =
    let a = c.args in
    let text = inside_step-parts a.clock a.last.now a.now.now (sym c.is_same_inside.ensures ∙ c.if-is_same_inside.false) in
    let g1 = going_on _ _ _ _ _ _ _ (going_begins _ _) text c.in_ok-put.ensures.bytes in
    takes_failed _ _ _ _ _ _ _ c.from_residual-in_err-put_next.result g1 refl c.from_residual-in_err-put_next.ensures.0 c.in_err-put_next.ensures.bytes

pub returns-in_err-put_changed_bits-clause-bytes : goal.returns-in_err-put_changed_bits-clause-bytes
returns-in_err-put_changed_bits-clause-bytes g c =
    let a = c.args.last.now in
    let b = c.args.now.now in
    let machines = machines_changes 0 a.machines b.machines in
    let text = inside_step-parts c.args.clock a b (sym c.is_same_inside.ensures ∙ c.if-is_same_inside.false) in
    let g1 = going_on _ _ _ _ _ _ _ (going_begins _ _) text c.in_ok-put.ensures.bytes in
    let g2 = going_on _ _ _ _ _ (changes_over 0 a.sample b.sample) (bit_changes 161 32 a.pads b.pads ++ machines) g1 refl c.in_ok-put_next.ensures.bytes in
    takes_failed _ _ _ _ _ _ machines c.from_residual-in_err-put_changed_bits.result g2 refl c.from_residual-in_err-put_changed_bits.ensures.0 c.in_err-put_changed_bits.ensures.bytes

pub returns-in_err-put_machines-clause-bytes : goal.returns-in_err-put_machines-clause-bytes
returns-in_err-put_machines-clause-bytes g c =
    let a = c.args.last.now in
    let b = c.args.now.now in
    let machines = machines_changes 0 a.machines b.machines in
    let text = inside_step-parts c.args.clock a b (sym c.is_same_inside.ensures ∙ c.if-is_same_inside.false) in
    let g1 = going_on _ _ _ _ _ _ _ (going_begins _ _) text c.in_ok-put.ensures.bytes in
    let g2 = going_on _ _ _ _ _ (changes_over 0 a.sample b.sample) (bit_changes 161 32 a.pads b.pads ++ machines) g1 refl c.in_ok-put_next.ensures.bytes in
    let g3 = going_on _ _ _ _ _ (bit_changes 161 32 a.pads b.pads) machines g2 refl c.in_ok-put_changed_bits.ensures.bytes in
    going_failed_last _ _ _ _ _ c.from_residual-in_err-put_machines.result g3 c.from_residual-in_err-put_machines.ensures.0 c.in_err-put_machines.ensures.bytes

pub returns-clause-bytes : goal.returns-clause-bytes
returns-clause-bytes g c =
    let a = c.args.last.now in
    let b = c.args.now.now in
    let machines = machines_changes 0 a.machines b.machines in
    let text = inside_step-parts c.args.clock a b (sym c.is_same_inside.ensures ∙ c.if-is_same_inside.false) in
    let g1 = going_on _ _ _ _ _ _ _ (going_begins _ _) text c.in_ok-put.ensures.bytes in
    let g2 = going_on _ _ _ _ _ (changes_over 0 a.sample b.sample) (bit_changes 161 32 a.pads b.pads ++ machines) g1 refl c.in_ok-put_next.ensures.bytes in
    let g3 = going_on _ _ _ _ _ (bit_changes 161 32 a.pads b.pads) machines g2 refl c.in_ok-put_changed_bits.ensures.bytes in
    going_done_last _ _ _ _ _ g3 c.in_ok-put_machines.ensures.bytes

pub returns-clause-kept : goal.returns-clause-kept
returns-clause-kept g c = inside-whole c.args.now.now _ c.in_ok-put_next.ensures.kept
