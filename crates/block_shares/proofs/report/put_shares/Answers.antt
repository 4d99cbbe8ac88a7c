use Rattle.block_shares.specs.Report.{machine_text, shares_text}
use Rattle.block_shares.proofs.Puts.{first_fails, second_fails, third_fails, fourth_ends}
use Rattle.block_shares.proofs.report.put_shares.Goals as goal

pub returns-in_err-put_machine-clause-bytes : goal.returns-in_err-put_machine-clause-bytes
unfolding shares_text
returns-in_err-put_machine-clause-bytes g c =
    let s = c.args.setup.now in
    first_fails _ _ (machine_text s 0) (machine_text s 1) (machine_text s 2) (machine_text s 3) c.from_residual.result c.from_residual.ensures.0 c.in_err-put_machine.ensures.bytes

pub returns-in_err-put_machine-2-clause-bytes : goal.returns-in_err-put_machine-2-clause-bytes
unfolding shares_text
returns-in_err-put_machine-2-clause-bytes g c =
    let s = c.args.setup.now in
    second_fails _ _ _ (machine_text s 0) (machine_text s 1) (machine_text s 2) (machine_text s 3) c.from_residual-in_err-put_machine-2.result c.in_ok-put_machine.ensures.bytes c.from_residual-in_err-put_machine-2.ensures.0 c.in_err-put_machine-2.ensures.bytes

pub returns-in_err-put_machine-3-clause-bytes : goal.returns-in_err-put_machine-3-clause-bytes
unfolding shares_text
returns-in_err-put_machine-3-clause-bytes g c =
    let s = c.args.setup.now in
    third_fails _ _ _ _ (machine_text s 0) (machine_text s 1) (machine_text s 2) (machine_text s 3) c.from_residual-in_err-put_machine-3.result c.in_ok-put_machine.ensures.bytes c.in_ok-put_machine-2.ensures.bytes c.from_residual-in_err-put_machine-3.ensures.0 c.in_err-put_machine-3.ensures.bytes

pub returns-clause-bytes : goal.returns-clause-bytes
unfolding shares_text
returns-clause-bytes g c =
    let s = c.args.setup.now in
    fourth_ends _ _ _ _ _ (machine_text s 0) (machine_text s 1) (machine_text s 2) (machine_text s 3) c.put_machine-4.result c.in_ok-put_machine.ensures.bytes c.in_ok-put_machine-2.ensures.bytes c.in_ok-put_machine-3.ensures.bytes c.put_machine-4.ensures.bytes
