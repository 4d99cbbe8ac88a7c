use Rattle.std.proofs.Common.{List, map, subst}
use Rattle.pin_matrix.specs.declared.span.Span.{Span}
use Rattle.block_core.specs.Hosted.{samples}
use Rattle.span_meter.specs.Measured.{ends_in}
use Rattle.span_meter.specs.Meters.{HasMeasured}
use Rattle.commands.proofs.measure.plain.Goals as goal

pub returns-clause-measured : goal.returns-clause-measured
returns-clause-measured g c =
    subst (λ (spans : List Span). HasMeasured c.args.pins (map ends_in spans) (samples c.args.block.run c.args.schedule.now c.args.clocks) c.meter_run.new.meter) c.as_slice.ensures.list
    (c.meter_run.ensures.measured _ _ c.in_ok-meter.ensures)
