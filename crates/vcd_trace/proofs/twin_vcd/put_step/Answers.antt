use Rattle.std.proofs.Common.{sym, ◌∙◌, refl}
use Rattle.vcd_trace.specs.VcdText.{changes_over}
use Rattle.vcd_trace.proofs.ToldLaws.{twin_step-changed}
use Rattle.pio_edge.proofs.PutLaws.{going_begins, going_on, takes_failed, takes_last}
use Rattle.vcd_trace.proofs.twin_vcd.put_step.Goals as goal

pub returns-in_err-put_clock-clause-bytes : goal.returns-in_err-put_clock-clause-bytes
returns-in_err-put_clock-clause-bytes g c =
    let a = c.args in
    let text = twin_step-changed a.clock a.before.now a.now.now (sym c.are_same.ensures ∙ c.if-are_same.false) in
    takes_failed _ _ _ _ _ _ _ c.from_residual.result (going_begins _ _) text c.from_residual.ensures.0 c.in_err-put_clock.ensures.bytes

pub returns-in_err-put_changes-clause-bytes : goal.returns-in_err-put_changes-clause-bytes
returns-in_err-put_changes-clause-bytes g c =
    let a = c.args in
    let text = twin_step-changed a.clock a.before.now a.now.now (sym c.are_same.ensures ∙ c.if-are_same.false) in
    let g1 = going_on _ _ _ _ _ _ _ (going_begins _ _) text c.in_ok-put_clock.ensures.bytes in
    takes_failed _ _ _ _ _ (changes_over 0 a.before.now.0 a.now.now.0) (changes_over 128 a.before.now.1 a.now.now.1) c.from_residual-in_err-put_changes.result g1 refl c.from_residual-in_err-put_changes.ensures.0 c.in_err-put_changes.ensures.bytes

pub returns-clause-bytes : goal.returns-clause-bytes
returns-clause-bytes g c =
    let a = c.args in
    let text = twin_step-changed a.clock a.before.now a.now.now (sym c.are_same.ensures ∙ c.if-are_same.false) in
    let g1 = going_on _ _ _ _ _ _ _ (going_begins _ _) text c.in_ok-put_clock.ensures.bytes in
    let g2 = going_on _ _ _ _ _ (changes_over 0 a.before.now.0 a.now.now.0) (changes_over 128 a.before.now.1 a.now.now.1) g1 refl c.in_ok-put_changes.ensures.bytes in
    takes_last _ _ _ _ _ c.put_changes-2.result g2 c.put_changes-2.ensures.bytes
