use Rattle.std.proofs.Common.{◌≡◌, length, take}
use Rattle.span_meter.specs.SpokenMeters.{tell_each}
use Rattle.span_meter.proofs.spoken.tell_each.Given as goal

-- the spans before this one are told, and the others are as they were
abbrev pub invariant-loop-place : goal.invariant-loop-place
invariant-loop-place l = record {
  told : l.known ≡ tell_each l.clock l.before l.told (take l.place l.spans) l.fn.known;
  many : length l.known ≡ length l.fn.known;
}
