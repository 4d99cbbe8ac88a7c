use Rattle.std.proofs.Common.{◌-◌, ◌≡◌, length}
use Rattle.span_step.specs.Narrowing.{IsTurn, nexts_left}
use Rattle.span_step.proofs.nexts.Nexts.take_narrowed.Given as goal

-- what is left to come is the same as before
abbrev pub invariant-loop-self : goal.invariant-loop-self
invariant-loop-self l = record {
  narrowing : l.self-inside.narrowing ≡ l.initial.self-inside.narrowing;
  ends : l.self-inside.ends ≡ l.initial.self-inside.ends;
  turn : IsTurn l.self-inside.narrowing l.self-inside.ends.now l.self-inside.place l.self-inside.turn;
  left : nexts_left l.self-inside.narrowing l.self-inside.ends.now l.self-inside.place l.self-inside.turn ≡ l.fn.self;
}

abbrev pub decreases-loop-self : goal.decreases-loop-self
decreases-loop-self l = length l.self-inside.ends.now - l.self-inside.place
