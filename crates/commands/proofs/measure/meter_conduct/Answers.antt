use Rattle.std.proofs.Common.{refl, map}
use Rattle.span_meter.specs.Events.{events_in}
use Rattle.span_meter.specs.SpokenMeters.{spoken_told}
use Rattle.span_meter.proofs.ConductLists.{timely_conducts}
use Rattle.commands.proofs.MetersSeen.{spoken_names}
use Rattle.commands.proofs.measure.meter_conduct.Goals as goal

pub returns-clause-spoken : goal.returns-clause-spoken
returns-clause-spoken g c = λ pins events h.
    let t = c.args.meter.now in
    c.in-Ok.ensures.ok (spoken_told t.first (map events_in t.spans)) refl pins events (spoken_names pins events t h)
    (timely_conducts c.args.block.now.worked.run c.args.schedule.now c.args.clocks c.requires.fresh)
