use Rattle.std.proofs.Common.{ap, arith}
use Rattle.span_meter.specs.SpokenMeters.{SpokenMeters}
use Rattle.span_meter.proofs.SpokenTrace.{gone_before, held_spoken}
use Rattle.span_meter.proofs.spoken.SpokenMeterTraceConduct.end.Goals as goal

pub returns-clause-ok : goal.returns-clause-ok
returns-clause-ok c = λ b l h n pins events e timely.
    let is = c.self.view_is in
    held_spoken pins events l c.args.self.now _ c.args.clock (omega arith) n timely (h pins events e)
    (ap (λ (t : SpokenMeters). t.first) is) (ap (λ (t : SpokenMeters). t.last) is) (ap (λ (t : SpokenMeters). t.spans) is) (ap (λ (t : SpokenMeters). t.known) is)
    (gone_before c.args.clock c.checked_sub-gone.result c.checked_sub-gone.ensures)
