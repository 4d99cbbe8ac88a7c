use Rattle.std.proofs.Common.{sym, ap, ◌∙◌}
use Rattle.pio_edge.specs.Edge.{with_bytes}
use Rattle.pio_edge.proofs.PutLaws.{with_bytes-nil}
use Rattle.vcd_trace.specs.VcdText.{vcd_form}
use Rattle.vcd_trace.proofs.FormLaws.{one_put, one_breaks}
use Rattle.vcd_trace.proofs.ToldLaws.{again-adds_nothing, repeats_add-nothing}
use Rattle.vcd_trace.proofs.vcd.VcdTraceTraceSample.sample.Goals as goal

pub returns-then-shows_again-clause-ok : goal.returns-then-shows_again-clause-ok
returns-then-shows_again-clause-ok g c = λ b l h n.
    let a = c.args in
    let taken = g.S.Sink.taken a.self.now.sink.now in
    let t = again-adds_nothing a.clock a.self.now.last a.sample.now (sym c.shows_again.ensures ∙ c.if-shows_again.true) in
    one_put vcd_form repeats_add-nothing b l _ _ _ _ _ _ h n (sym (ap (with_bytes taken) t.0 ∙ with_bytes-nil taken)) t.1

pub returns-in-Ok-clause-ok : goal.returns-in-Ok-clause-ok
returns-in-Ok-clause-ok g c = λ b l h n.
    one_put vcd_form repeats_add-nothing b l _ _ _ _ _ _ h n c.in-Ok.ensures.bytes c.in-Ok.ensures.kept

pub returns-in-Err-clause-err : goal.returns-in-Err-clause-err
returns-in-Err-clause-err g c = λ b l h n. one_breaks vcd_form repeats_add-nothing b l _ _ _ _ _ h n c.in-Err.ensures.bytes
