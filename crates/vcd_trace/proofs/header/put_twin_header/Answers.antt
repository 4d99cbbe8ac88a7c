use Rattle.std.proofs.Common.{◌++◌, refl}
use Rattle.std.specs.Prelude.{codes}
use Rattle.vcd_trace.specs.VcdText.{scope_text}
use Rattle.vcd_trace.proofs.HeaderLaws.{twin_header-parts}
use Rattle.pio_edge.proofs.PutLaws.{going_begins, going_on, takes_failed, takes_last}
use Rattle.vcd_trace.proofs.header.put_twin_header.Goals as goal

pub returns-in_err-put-clause-bytes : goal.returns-in_err-put-clause-bytes
returns-in_err-put-clause-bytes g c =
    takes_failed _ _ _ _ _ _ _ c.from_residual.result (going_begins _ _) twin_header-parts c.from_residual.ensures.0 c.in_err-put.ensures.bytes

pub returns-in_err-put_scope-clause-bytes : goal.returns-in_err-put_scope-clause-bytes
returns-in_err-put_scope-clause-bytes g c =
    let g1 = going_on _ _ _ _ _ _ _ (going_begins _ _) twin_header-parts c.in_ok-put.ensures.bytes in
    takes_failed _ _ _ _ _ _ _ c.from_residual-in_err-put_scope.result g1 refl c.from_residual-in_err-put_scope.ensures.0 c.in_err-put_scope.ensures.bytes

pub returns-in_err-put_scope-2-clause-bytes : goal.returns-in_err-put_scope-2-clause-bytes
returns-in_err-put_scope-2-clause-bytes g c =
    let ends = codes "$enddefinitions $end\n" in
    let second = scope_text (codes "$scope module pio1 $end\n") 128 in
    let g1 = going_on _ _ _ _ _ _ _ (going_begins _ _) twin_header-parts c.in_ok-put.ensures.bytes in
    let g2 = going_on _ _ _ _ _ (scope_text (codes "$scope module pio0 $end\n") 0) (second ++ ends) g1 refl c.in_ok-put_scope.ensures.bytes in
    takes_failed _ _ _ _ _ second ends c.from_residual-in_err-put_scope-2.result g2 refl c.from_residual-in_err-put_scope-2.ensures.0 c.in_err-put_scope-2.ensures.bytes

pub returns-clause-bytes : goal.returns-clause-bytes
returns-clause-bytes g c =
    let ends = codes "$enddefinitions $end\n" in
    let second = scope_text (codes "$scope module pio1 $end\n") 128 in
    let g1 = going_on _ _ _ _ _ _ _ (going_begins _ _) twin_header-parts c.in_ok-put.ensures.bytes in
    let g2 = going_on _ _ _ _ _ (scope_text (codes "$scope module pio0 $end\n") 0) (second ++ ends) g1 refl c.in_ok-put_scope.ensures.bytes in
    let g3 = going_on _ _ _ _ _ second ends g2 refl c.in_ok-put_scope-2.ensures.bytes in
    takes_last _ _ _ _ _ c.put-2.result g3 c.put-2.ensures.bytes
