use Rattle.vcd_trace.proofs.ToldLaws.{step_text-changed}
use Rattle.pio_edge.proofs.PutLaws.{going_begins, going_on, takes_failed, takes_last}
use Rattle.vcd_trace.proofs.vcd.put_step.Goals as goal

pub returns-in_err-put-clause-bytes : goal.returns-in_err-put-clause-bytes
returns-in_err-put-clause-bytes g c =
    let a = c.args in
    takes_failed _ _ _ _ _ _ _ c.from_residual.result (going_begins _ _) (step_text-changed a.clock a.last.now a.now.now c.requires) c.from_residual.ensures.0 c.in_err-put.ensures.bytes

pub returns-clause-bytes : goal.returns-clause-bytes
returns-clause-bytes g c =
    let a = c.args in
    let g1 = going_on _ _ _ _ _ _ _ (going_begins _ _) (step_text-changed a.clock a.last.now a.now.now c.requires) c.in_ok-put.ensures.bytes in
    takes_last _ _ _ _ _ c.put_next.result g1 c.put_next.ensures.bytes
