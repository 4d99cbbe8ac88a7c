use Rattle.std.proofs.Common.{refl}
use Rattle.vcd_trace.specs.TwinText.{twin_form}
use Rattle.vcd_trace.proofs.FormLaws.{one_put, one_breaks}
use Rattle.vcd_trace.proofs.ToldLaws.{twin_repeats_add-nothing}
use Rattle.vcd_trace.proofs.twin_vcd.TwinVcdTraceTuple2SampleSample.sample.Goals as goal

pub returns-in-Ok-clause-ok : goal.returns-in-Ok-clause-ok
returns-in-Ok-clause-ok g c = λ b l h n. one_put twin_form twin_repeats_add-nothing b l _ _ _ _ _ _ h n c.in-Ok.ensures.bytes refl

pub returns-in-Err-clause-err : goal.returns-in-Err-clause-err
returns-in-Err-clause-err g c = λ b l h n. one_breaks twin_form twin_repeats_add-nothing b l _ _ _ _ _ h n c.in-Err.ensures.bytes
