use Rattle.std.proofs.Common.{◌++◌, refl}
use Rattle.std.specs.Prelude.{codes}
use Rattle.vcd_trace.specs.VcdText.{values_over}
use Rattle.vcd_trace.proofs.ChangesLaws.{twin_dump-parts}
use Rattle.pio_edge.proofs.PutLaws.{going_begins, going_on, takes_failed, takes_last}
use Rattle.vcd_trace.proofs.dump.put_twin_dump.Goals as goal

pub returns-in_err-put-clause-bytes : goal.returns-in_err-put-clause-bytes
returns-in_err-put-clause-bytes g c =
    takes_failed _ _ _ _ _ _ _ c.from_residual.result (going_begins _ _) (twin_dump-parts (c.args.first.now, c.args.second.now)) c.from_residual.ensures.0 c.in_err-put.ensures.bytes

pub returns-in_err-put_values-clause-bytes : goal.returns-in_err-put_values-clause-bytes
returns-in_err-put_values-clause-bytes g c =
    let g1 = going_on _ _ _ _ _ _ _ (going_begins _ _) (twin_dump-parts (c.args.first.now, c.args.second.now)) c.in_ok-put.ensures.bytes in
    takes_failed _ _ _ _ _ _ _ c.from_residual-in_err-put_values.result g1 refl c.from_residual-in_err-put_values.ensures.0 c.in_err-put_values.ensures.bytes

pub returns-in_err-put_values-2-clause-bytes : goal.returns-in_err-put_values-2-clause-bytes
returns-in_err-put_values-2-clause-bytes g c =
    let ends = codes "$end\n" in
    let second = values_over 128 c.args.second.now in
    let g1 = going_on _ _ _ _ _ _ _ (going_begins _ _) (twin_dump-parts (c.args.first.now, c.args.second.now)) c.in_ok-put.ensures.bytes in
    let g2 = going_on _ _ _ _ _ (values_over 0 c.args.first.now) (second ++ ends) g1 refl c.in_ok-put_values.ensures.bytes in
    takes_failed _ _ _ _ _ second ends c.from_residual-in_err-put_values-2.result g2 refl c.from_residual-in_err-put_values-2.ensures.0 c.in_err-put_values-2.ensures.bytes

pub returns-clause-bytes : goal.returns-clause-bytes
returns-clause-bytes g c =
    let ends = codes "$end\n" in
    let second = values_over 128 c.args.second.now in
    let g1 = going_on _ _ _ _ _ _ _ (going_begins _ _) (twin_dump-parts (c.args.first.now, c.args.second.now)) c.in_ok-put.ensures.bytes in
    let g2 = going_on _ _ _ _ _ (values_over 0 c.args.first.now) (second ++ ends) g1 refl c.in_ok-put_values.ensures.bytes in
    let g3 = going_on _ _ _ _ _ second ends g2 refl c.in_ok-put_values-2.ensures.bytes in
    takes_last _ _ _ _ _ c.put-2.result g3 c.put-2.ensures.bytes
