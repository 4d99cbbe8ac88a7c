use Rattle.std.proofs.Common.{◌++◌, refl}
use Rattle.std.specs.Prelude.{codes}
use Rattle.vcd_trace.specs.VcdText.{scope_text}
use Rattle.vcd_trace.specs.InsideText.{machine_scopes, pads_scope}
use Rattle.vcd_trace.proofs.InsideLaws.{inside_header-parts}
use Rattle.pio_edge.proofs.PutLaws.{going_begins, going_on, takes_failed, takes_last}
use Rattle.vcd_trace.proofs.inside_header.put_inside_header.Goals as goal

pub returns-in_err-put-clause-bytes : goal.returns-in_err-put-clause-bytes
returns-in_err-put-clause-bytes g c =
    takes_failed _ _ _ _ _ _ _ c.from_residual.result (going_begins _ _) (inside_header-parts c.args.configured.now) c.from_residual.ensures.0 c.in_err-put.ensures.bytes

pub returns-in_err-put_scope-clause-bytes : goal.returns-in_err-put_scope-clause-bytes
returns-in_err-put_scope-clause-bytes g c =
    let g1 = going_on _ _ _ _ _ _ _ (going_begins _ _) (inside_header-parts c.args.configured.now) c.in_ok-put.ensures.bytes in
    takes_failed _ _ _ _ _ _ _ c.from_residual-in_err-put_scope.result g1 refl c.from_residual-in_err-put_scope.ensures.0 c.in_err-put_scope.ensures.bytes

pub returns-in_err-put_pads-clause-bytes : goal.returns-in_err-put_pads-clause-bytes
returns-in_err-put_pads-clause-bytes g c =
    let ends = codes "$enddefinitions $end\n" in
    let machines = machine_scopes 0 c.args.configured.now in
    let g1 = going_on _ _ _ _ _ _ _ (going_begins _ _) (inside_header-parts c.args.configured.now) c.in_ok-put.ensures.bytes in
    let g2 = going_on _ _ _ _ _ (scope_text (codes "$scope module pio $end\n") 0) (pads_scope ++ (machines ++ ends)) g1 refl c.in_ok-put_scope.ensures.bytes in
    takes_failed _ _ _ _ _ pads_scope (machines ++ ends) c.from_residual-in_err-put_pads.result g2 refl c.from_residual-in_err-put_pads.ensures.0 c.in_err-put_pads.ensures.bytes

pub returns-in_err-put_machines-clause-bytes : goal.returns-in_err-put_machines-clause-bytes
returns-in_err-put_machines-clause-bytes g c =
    let ends = codes "$enddefinitions $end\n" in
    let machines = machine_scopes 0 c.args.configured.now in
    let g1 = going_on _ _ _ _ _ _ _ (going_begins _ _) (inside_header-parts c.args.configured.now) c.in_ok-put.ensures.bytes in
    let g2 = going_on _ _ _ _ _ (scope_text (codes "$scope module pio $end\n") 0) (pads_scope ++ (machines ++ ends)) g1 refl c.in_ok-put_scope.ensures.bytes in
    let g3 = going_on _ _ _ _ _ pads_scope (machines ++ ends) g2 refl c.in_ok-put_pads.ensures.bytes in
    takes_failed _ _ _ _ _ machines ends c.from_residual-in_err-put_machines.result g3 refl c.from_residual-in_err-put_machines.ensures.0 c.in_err-put_machines.ensures.bytes

pub returns-clause-bytes : goal.returns-clause-bytes
returns-clause-bytes g c =
    let ends = codes "$enddefinitions $end\n" in
    let machines = machine_scopes 0 c.args.configured.now in
    let g1 = going_on _ _ _ _ _ _ _ (going_begins _ _) (inside_header-parts c.args.configured.now) c.in_ok-put.ensures.bytes in
    let g2 = going_on _ _ _ _ _ (scope_text (codes "$scope module pio $end\n") 0) (pads_scope ++ (machines ++ ends)) g1 refl c.in_ok-put_scope.ensures.bytes in
    let g3 = going_on _ _ _ _ _ pads_scope (machines ++ ends) g2 refl c.in_ok-put_pads.ensures.bytes in
    let g4 = going_on _ _ _ _ _ machines ends g3 refl c.in_ok-put_machines.ensures.bytes in
    takes_last _ _ _ _ _ c.put-2.result g4 c.put-2.ensures.bytes
