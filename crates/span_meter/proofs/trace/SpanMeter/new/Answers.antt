use Rattle.std.proofs.Common.{refl, map}
use Rattle.span_meter.specs.Measured.{ends_in}
use Rattle.span_meter.proofs.Telling.{begin_measured}
use Rattle.span_meter.proofs.trace.SpanMeter.new.Goals as goal

pub returns : goal.returns
returns c =
    let made = c.in_ok-meters.ensures in
    begin_measured c.args.pins (map ends_in c.args.spans.now) c.in_ok-meters.meters.items _ made.1 refl refl made.0
