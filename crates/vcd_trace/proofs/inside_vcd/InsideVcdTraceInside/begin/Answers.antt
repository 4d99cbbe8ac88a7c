use Rattle.std.proofs.Common.{sym, ◌∙◌, refl}
use Rattle.vcd_trace.proofs.InsideSame.{begins, begin_breaks}
use Rattle.vcd_trace.proofs.inside_vcd.InsideVcdTraceInside.begin.Goals as goal

pub returns-in-Ok-clause-ok : goal.returns-in-Ok-clause-ok
returns-in-Ok-clause-ok g c = λ b r configured taken e. begins c.args.self.now.configured configured _ taken _ _ (sym r ∙ e) c.in-Ok.ensures.bytes refl

pub returns-in-Err-clause-err : goal.returns-in-Err-clause-err
returns-in-Err-clause-err g c = λ b r configured taken e. begin_breaks c.args.self.now.configured configured _ taken _ (sym r ∙ e) c.in-Err.ensures.bytes
