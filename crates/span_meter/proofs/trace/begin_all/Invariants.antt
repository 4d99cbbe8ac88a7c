use Rattle.std.proofs.Common.{◌≡◌, ◌++◌, map, take, drop}
use Rattle.span_meter.specs.declared.meter.Meter.{Meter}
use Rattle.span_meter.specs.Meters.{fresh}
use Rattle.span_meter.proofs.trace.begin_all.Given as goal

-- the meters before this one are done, and the others are as they were
abbrev pub invariant-loop-meter : goal.invariant-loop-meter
invariant-loop-meter l = l.meter-items ≡ map (λ (m : Meter). fresh m.edges) (take l.meter-index l.initial.meter-items) ++ drop l.meter-index l.initial.meter-items
