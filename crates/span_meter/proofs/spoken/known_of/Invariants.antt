use Rattle.std.proofs.Common.{◌≡◌, length, map}
use Rattle.span_meter.specs.declared.spoken_span.SpokenSpan.{SpokenSpan}
use Rattle.span_meter.specs.SpokenMeters.{fresh_spoken}
use Rattle.span_meter.proofs.spoken.known_of.Given as goal

-- each span before this one is known of, and nothing more of it than before the first clock
abbrev pub invariant-loop-span : goal.invariant-loop-span
invariant-loop-span l = record {
  fresh : l.known.items ≡ map (λ (s : SpokenSpan). fresh_spoken s.meter.edges) l.known.items;
  many : length l.known.items ≡ l.span-index;
}
