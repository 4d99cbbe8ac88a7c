use Rattle.vcd_trace.specs.InsideText.{inside_form}
use Rattle.vcd_trace.proofs.FormLaws.{one_put, one_breaks}
use Rattle.vcd_trace.proofs.InsideSame.{inside_repeats_add-nothing}
use Rattle.vcd_trace.proofs.inside_vcd.InsideVcdTraceInside.sample.Goals as goal

pub returns-in-Ok-clause-ok : goal.returns-in-Ok-clause-ok
returns-in-Ok-clause-ok g c = λ b l h n configured taken e.
    one_put (inside_form configured) (inside_repeats_add-nothing configured) taken l _ _ _ _ _ _ (h configured taken e) n (c.in-Ok.ensures.bytes configured) c.in-Ok.ensures.kept

pub returns-in-Err-clause-err : goal.returns-in-Err-clause-err
returns-in-Err-clause-err g c = λ b l h n configured taken e.
    one_breaks (inside_form configured) (inside_repeats_add-nothing configured) taken l _ _ _ _ _ (h configured taken e) n (c.in-Err.ensures.bytes configured)
