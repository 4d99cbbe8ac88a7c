use Rattle.std.proofs.Common.{refl, map}
use Rattle.span_meter.specs.Events.{events_in}
use Rattle.span_meter.proofs.SpokenTrace.{begin_spoken}
use Rattle.span_meter.proofs.spoken.SpokenMeter.new.Goals as goal

pub returns : goal.returns
returns c =
    let made = c.in_ok-known.ensures in
    begin_spoken c.args.pins (map events_in c.args.spans.now) c.in_ok-known.known.items _ refl refl refl refl made.1 made.0
