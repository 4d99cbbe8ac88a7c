use Rattle.std.proofs.Common.{◌+◌, refl}
use Rattle.std.specs.Prelude.{codes}
use Rattle.vcd_trace.specs.VcdText.{declarations, variables}
use Rattle.vcd_trace.proofs.HeaderLaws.{scope_of-parts}
use Rattle.pio_edge.proofs.PutLaws.{going_begins, going_on, takes_failed, takes_last}
use Rattle.vcd_trace.proofs.header.put_scope.Goals as goal

pub returns-in_err-put-clause-bytes : goal.returns-in_err-put-clause-bytes
returns-in_err-put-clause-bytes g c =
    takes_failed _ _ _ _ _ _ _ c.from_residual.result (going_begins _ _) (scope_of-parts c.args.opening.now (33 + c.args.more) variables) c.from_residual.ensures.0 c.in_err-put.ensures.bytes

pub returns-in_err-put_declarations-clause-bytes : goal.returns-in_err-put_declarations-clause-bytes
returns-in_err-put_declarations-clause-bytes g c =
    let g1 = going_on _ _ _ _ _ _ _ (going_begins _ _) (scope_of-parts c.args.opening.now (33 + c.args.more) variables) c.in_ok-put.ensures.bytes in
    takes_failed _ _ _ _ _ _ _ c.from_residual-in_err-put_declarations.result g1 refl c.from_residual-in_err-put_declarations.ensures.0 c.in_err-put_declarations.ensures.bytes

pub returns-clause-bytes : goal.returns-clause-bytes
returns-clause-bytes g c =
    let g1 = going_on _ _ _ _ _ _ _ (going_begins _ _) (scope_of-parts c.args.opening.now (33 + c.args.more) variables) c.in_ok-put.ensures.bytes in
    let g2 = going_on _ _ _ _ _ (declarations (33 + c.args.more) variables) (codes "$upscope $end\n") g1 refl c.in_ok-put_declarations.ensures.bytes in
    takes_last _ _ _ _ _ c.put-2.result g2 c.put-2.ensures.bytes
