use Rattle.std.proofs.Common.{refl}
use Rattle.std.specs.Prelude.{codes}
use Rattle.vcd_trace.specs.VcdText.{declarations}
use Rattle.vcd_trace.specs.InsideText.{first_of_machine, machine_opening, machine_variables}
use Rattle.vcd_trace.proofs.HeaderLaws.{scope_of-parts}
use Rattle.pio_edge.proofs.PutLaws.{going_begins, going_on, takes_failed, takes_last}
use Rattle.vcd_trace.proofs.inside_header.put_machine.Goals as goal

pub returns-in_err-put_machine_opening-clause-bytes : goal.returns-in_err-put_machine_opening-clause-bytes
returns-in_err-put_machine_opening-clause-bytes g c =
    let text = scope_of-parts (machine_opening c.args.place) (first_of_machine c.args.place) machine_variables in
    takes_failed _ _ _ _ _ _ _ c.from_residual.result (going_begins _ _) text c.from_residual.ensures.0 c.in_err-put_machine_opening.ensures.bytes

pub returns-in_err-put_machine_variables-clause-bytes : goal.returns-in_err-put_machine_variables-clause-bytes
returns-in_err-put_machine_variables-clause-bytes g c =
    let text = scope_of-parts (machine_opening c.args.place) (first_of_machine c.args.place) machine_variables in
    let g1 = going_on _ _ _ _ _ _ _ (going_begins _ _) text c.in_ok-put_machine_opening.ensures.bytes in
    takes_failed _ _ _ _ _ _ _ c.from_residual-in_err-put_machine_variables.result g1 refl c.from_residual-in_err-put_machine_variables.ensures.0 c.in_err-put_machine_variables.ensures.bytes

pub returns-clause-bytes : goal.returns-clause-bytes
returns-clause-bytes g c =
    let text = scope_of-parts (machine_opening c.args.place) (first_of_machine c.args.place) machine_variables in
    let g1 = going_on _ _ _ _ _ _ _ (going_begins _ _) text c.in_ok-put_machine_opening.ensures.bytes in
    let g2 = going_on _ _ _ _ _ (declarations (first_of_machine c.args.place) machine_variables) (codes "$upscope $end\n") g1 refl c.in_ok-put_machine_variables.ensures.bytes in
    takes_last _ _ _ _ _ c.put.result g2 c.put.ensures.bytes
