-- What is said of the spans of two blocks on one set of pins.
--   AllHoldInPairs   each span of both holds in every run of both
--   AreBothRequired     how a command ends that requires the spans of both
use Rattle.std.specs.Prelude.{ℕ, List, Result, Ok, Err}
use Rattle.std.specs.List.{AllByRecursion}
use Rattle.pin_matrix.specs.declared.setup.Setup.{Setup}
use Rattle.dreq_pacing.specs.declared.line.Line.{Line}
use Rattle.span_check.specs.Pairs.{HoldsInFirst, HoldsInSecond}
use Rattle.fault_lines.specs.declared.fault.Fault.{Fault}
use Rattle.fault_lines.specs.declared.fault.Fault.TheVariants as fault
use Rattle.stages.specs.Spans.{AreProvable, IsFirstRefused}

-- Each span of both holds in every run of both: whichever pins the second owns, and whatever the stimuli and the
-- length.
pub record AllHoldInPairs (s t : Setup) : Type 0 where
  pub first : (own : ℕ) (lines others : List Line) (n : ℕ) → AllByRecursion (λ sp. HoldsInFirst sp own s t lines others n) s.spans
  pub second : (own : ℕ) (lines others : List Line) (n : ℕ) → AllByRecursion (λ sp. HoldsInSecond sp own s t lines others n) t.spans

-- how a command ends that requires the spans of the second block: each is provable, or the first one that isn't is named
abbrev pub AreSecondRequired : Setup → Result (Unit {0}) Fault → Type 0
AreSecondRequired t (Ok done) = AreProvable t
AreSecondRequired t (Err (fault.SecondUnproved place name refusal)) = IsFirstRefused t t.spans place name refusal
AreSecondRequired t (Err fault.Memory) = Unit {0}
AreSecondRequired t (Err e) = ⊥

-- How a command ends that requires the spans of both: each is provable and holds in every run of both, or the first one
-- that isn't is told. Those of the first block come first.
abbrev pub AreBothRequired : (s t : Setup) → Result (Unit {0}) Fault → Type 0
AreBothRequired s t (Ok done) = (AreProvable s × AreProvable t) × AllHoldInPairs s t
AreBothRequired s t (Err (fault.Unproved place name refusal)) = IsFirstRefused s s.spans place name refusal
AreBothRequired s t (Err (fault.SecondUnproved place name refusal)) = AreProvable s × IsFirstRefused t t.spans place name refusal
AreBothRequired s t (Err fault.Memory) = Unit {0}
AreBothRequired s t (Err e) = ⊥
