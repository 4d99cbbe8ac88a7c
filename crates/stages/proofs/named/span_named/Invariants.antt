use Rattle.std.proofs.Common.{◌≡◌, drop}
use Rattle.stages.specs.Named as spec
use Rattle.stages.proofs.named.span_named.Given as goal

-- no span before this place has the name
abbrev pub invariant-loop-place : goal.invariant-loop-place
invariant-loop-place l = spec.named_from 0 l.name l.spans ≡ spec.named_from l.place l.name (drop l.place l.spans)
