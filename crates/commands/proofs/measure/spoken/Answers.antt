use Rattle.std.proofs.Common.{List, map, subst}
use Rattle.pin_matrix.specs.declared.span.Span.{Span}
use Rattle.block_core.specs.Conduct.{conducts}
use Rattle.span_meter.specs.Events.{events_in}
use Rattle.span_meter.specs.SpokenMeters.{HasSpoken}
use Rattle.commands.proofs.measure.spoken.Goals as goal

pub returns-clause-spoken : goal.returns-clause-spoken
returns-clause-spoken g c =
    subst (λ (spans : List Span). HasSpoken c.args.pins (map events_in spans) (conducts c.args.block.run c.args.schedule.now c.args.clocks) c.meter_conduct.new.meter) c.as_slice.ensures.list
    (subst (λ t. HasSpoken c.args.pins (map events_in c.as_slice.result.now) (conducts t.worked.run c.args.schedule.now c.args.clocks) c.meter_conduct.new.meter) c.new-conducted.ensures
    (c.meter_conduct.ensures.spoken _ _ c.in_ok-meter.ensures))
