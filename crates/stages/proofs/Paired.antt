-- Provable spans of two blocks hold in every run of both.
use Rattle.std.proofs.Common.{ℕ, None, IsSome, List, [], ◌∷◌, slice_index_or, Result, Ok, Err}
use Rattle.std.specs.List.{AllByRecursion}
use Rattle.pin_matrix.specs.declared.setup.Setup.{Setup}
use Rattle.pin_matrix.specs.declared.span.Span.{Span}
use Rattle.dreq_pacing.specs.declared.line.Line.{Line}
use Rattle.span_bounds.specs.Tables.{IsProvable}
use Rattle.span_verdict.specs.Sharing.{IsUnshared}
use Rattle.span_check.specs.Pairs.{HoldsInFirst, HoldsInSecond}
use Rattle.fault_lines.specs.declared.fault.Fault.{Fault}
use Rattle.fault_lines.specs.declared.fault.Fault.TheVariants as fault
use Rattle.stages.specs.Configured.{AreConfigured}
use Rattle.stages.specs.Spans.{IsProvableAlone, AreProvable}
use Rattle.stages.specs.Pairs.{AllHoldInPairs, AreSecondRequired, AreBothRequired}

-- the laws of each
abbrev pub FirstHold : Type 0
FirstHold = (own : ℕ) (s t : Setup) (sp : Span) → IsSome (slice_index_or s.machines sp.machine None) → IsProvable s sp → IsUnshared s sp
    → (first second : List Line) (n : ℕ) → HoldsInFirst sp own s t first second n

abbrev pub SecondHold : Type 0
SecondHold = (own : ℕ) (s t : Setup) (sp : Span) → IsSome (slice_index_or t.machines sp.machine None) → IsProvable t sp → IsUnshared t sp
    → (first second : List Line) (n : ℕ) → HoldsInSecond sp own s t first second n

-- what is so of each provable span is so of all
all_of : (u : Setup) (P : Span → Type 0) → ((sp : Span) → IsSome (slice_index_or u.machines sp.machine None) → IsProvableAlone u sp → P sp)
    → (spans : List Span) → AllByRecursion (λ sp. IsSome (slice_index_or u.machines sp.machine None)) spans
    → AllByRecursion (IsProvableAlone u) spans → AllByRecursion P spans
all_of u P law [] c p = tt
all_of u P law (sp ∷ spans) c p = (law sp c.0 p.0, all_of u P law spans c.1 p.1)

both_hold : FirstHold → SecondHold → (s t : Setup) → AreConfigured s → AreConfigured t → AreProvable s → AreProvable t → AllHoldInPairs s t
both_hold first second s t c d p q = record {
  first = λ own lines others n. all_of s (λ sp. HoldsInFirst sp own s t lines others n)
      (λ sp some alone. first own s t sp some alone.provable alone.alone lines others n) s.spans c p;
  second = λ own lines others n. all_of t (λ sp. HoldsInSecond sp own s t lines others n)
      (λ sp some alone. second own s t sp some alone.provable alone.alone lines others n) t.spans d q;
}

-- the second's spans are asked where the first's are provable
pub asked_both : FirstHold → SecondHold → (s t : Setup) (r : Result (Unit {0}) Fault) → AreConfigured s → AreConfigured t → AreProvable s
    → AreSecondRequired t r → AreBothRequired s t r
asked_both first second s t (Ok done) c d p h = ((p, h), both_hold first second s t c d p h)
asked_both first second s t (Err (fault.SecondUnproved place name refusal)) c d p h = (p, h)
asked_both first second s t (Err fault.Memory) c d p h = tt
asked_both first second s t (Err (fault.Unproved place name refusal)) c d p h = absurd h
asked_both first second s t (Err fault.Usage) c d p h = absurd h
asked_both first second s t (Err (fault.Shelf role)) c d p h = absurd h
asked_both first second s t (Err (fault.TooLong role)) c d p h = absurd h
asked_both first second s t (Err (fault.Words line kind)) c d p h = absurd h
asked_both first second s t (Err (fault.Source line kind)) c d p h = absurd h
asked_both first second s t (Err (fault.Config key kind)) c d p h = absurd h
asked_both first second s t (Err (fault.Second key kind)) c d p h = absurd h
asked_both first second s t (Err (fault.Stim line kind)) c d p h = absurd h
asked_both first second s t (Err fault.NoSpan) c d p h = absurd h
asked_both first second s t (Err (fault.Table line kind)) c d p h = absurd h
asked_both first second s t (Err (fault.Flaw place name flaw)) c d p h = absurd h
asked_both first second s t (Err fault.Out) c d p h = absurd h
