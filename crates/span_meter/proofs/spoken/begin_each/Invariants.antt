use Rattle.std.proofs.Common.{◌≡◌, ◌++◌, map, take, drop}
use Rattle.span_meter.specs.declared.spoken_span.SpokenSpan.{SpokenSpan}
use Rattle.span_meter.specs.SpokenMeters.{fresh_spoken}
use Rattle.span_meter.proofs.spoken.begin_each.Given as goal

-- those before this one are done, and the others are as they were
abbrev pub invariant-loop-span : goal.invariant-loop-span
invariant-loop-span l = l.span-items ≡ map (λ (s : SpokenSpan). fresh_spoken s.meter.edges) (take l.span-index l.initial.span-items) ++ drop l.span-index l.initial.span-items
