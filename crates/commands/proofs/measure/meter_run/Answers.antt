use Rattle.std.proofs.Common.{refl}
use Rattle.span_meter.specs.Meters.{first_told, watched}
use Rattle.commands.proofs.MetersSeen.{names}
use Rattle.commands.proofs.measure.meter_run.Goals as goal

pub returns-clause-measured : goal.returns-clause-measured
returns-clause-measured g c = λ pins ends h.
    let t = c.args.meter.now in
    c.in-Ok.ensures.ok (first_told t.first (watched t.meters)) refl pins ends (names pins ends t h)
