use Rattle.std.proofs.Common.{refl}
use Rattle.std.specs.Prelude.{codes}
use Rattle.vcd_trace.specs.VcdText.{declarations}
use Rattle.vcd_trace.specs.InsideText.{pad_variables}
use Rattle.vcd_trace.proofs.HeaderLaws.{scope_of-parts}
use Rattle.pio_edge.proofs.PutLaws.{going_begins, going_on, takes_failed, takes_last}
use Rattle.vcd_trace.proofs.inside_header.put_pads.Goals as goal

pub returns-in_err-put-clause-bytes : goal.returns-in_err-put-clause-bytes
returns-in_err-put-clause-bytes g c =
    takes_failed _ _ _ _ _ _ _ c.from_residual.result (going_begins _ _) (scope_of-parts (codes "$scope module pads $end\n") 161 pad_variables) c.from_residual.ensures.0 c.in_err-put.ensures.bytes

pub returns-in_err-put_group-clause-bytes : goal.returns-in_err-put_group-clause-bytes
unfolding pad_variables
returns-in_err-put_group-clause-bytes g c =
    let g1 = going_on _ _ _ _ _ _ _ (going_begins _ _) (scope_of-parts (codes "$scope module pads $end\n") 161 pad_variables) c.in_ok-put.ensures.bytes in
    takes_failed _ _ _ _ _ (declarations 161 pad_variables) (codes "$upscope $end\n") c.from_residual-in_err-put_group.result g1 refl c.from_residual-in_err-put_group.ensures.0 c.in_err-put_group.ensures.bytes

pub returns-clause-bytes : goal.returns-clause-bytes
unfolding pad_variables
returns-clause-bytes g c =
    let g1 = going_on _ _ _ _ _ _ _ (going_begins _ _) (scope_of-parts (codes "$scope module pads $end\n") 161 pad_variables) c.in_ok-put.ensures.bytes in
    let g2 = going_on _ _ _ _ _ (declarations 161 pad_variables) (codes "$upscope $end\n") g1 refl c.in_ok-put_group.ensures.bytes in
    takes_last _ _ _ _ _ c.put-2.result g2 c.put-2.ensures.bytes
