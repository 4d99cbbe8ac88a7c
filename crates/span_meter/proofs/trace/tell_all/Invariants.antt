use Rattle.std.proofs.Common.{◌≡◌, ◌++◌, map, take, drop}
use Rattle.span_meter.specs.Meters.{after_clock}
use Rattle.span_meter.proofs.trace.tell_all.Given as goal

-- the meters before this one are done, and the others are as they were
abbrev pub invariant-loop-meter : goal.invariant-loop-meter
invariant-loop-meter l = l.meter-items ≡ map (after_clock l.clock l.before l.pins) (take l.meter-index l.initial.meter-items) ++ drop l.meter-index l.initial.meter-items
