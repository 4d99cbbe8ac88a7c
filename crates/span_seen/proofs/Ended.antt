-- The end of what a span assumes, as it is told in a run, is that of its marks.
use Rattle.std.proofs.Common.{◌≡◌, ℕ, zero, suc, inl, Bool, true, false, cond, Option, Some, None, IsSome, List, slice_index_or, refl, sym, ap, subst, ◌∙◌, arith}
use Rattle.pin_matrix.specs.declared.machine.MachineSetup.{MachineSetup}
use Rattle.pin_matrix.specs.declared.setup.Setup.{Setup}
use Rattle.pin_matrix.specs.declared.span.Span.{Span}
use Rattle.dreq_pacing.specs.declared.line.Line.{Line}
use Rattle.block_core.specs.Block.{Run, first_run, next, seen_in, view_of}
use Rattle.block_core.specs.Conduct.{conduct_at, conduct_before, conducts}
use Rattle.block_core.specs.Hosted.{host_of, hosted_at, hosted_next}
use Rattle.block_core.specs.Slots.{slot_after}
use Rattle.span_check.specs.Marks.{Mark, mark_of}
use Rattle.span_check.specs.Runs.{marks_in}
use Rattle.span_meter.specs.declared.assumed.Assumed.{Assumed}
use Rattle.span_meter.specs.declared.seen.SeenDistances.{SeenDistances}
use Rattle.span_meter.specs.Assumed.{assumed_after, assumed_from, assumed_up_to, end_before, nothing_missed, spoken_seen}
use Rattle.span_meter.specs.Events.{conduct_of, events_in, is_selective}
use Rattle.span_meter.proofs.ConductLists.{length-conducts}
use Rattle.span_meter.proofs.PlainSpans.{no_assumption, plain_assumes}
use Rattle.span_meter.proofs.SpokenEnds.{assumed-more}
use Rattle.span_seen.specs.Ends.{IsAssumedUpTo}
use Rattle.span_seen.specs.Within.{measured_in}
use Rattle.span_seen.proofs.Ending.{IsKnown, known_end, known_next}
use Rattle.span_seen.proofs.Missing.{Tells, end_told, rest_told}
use Rattle.span_seen.proofs.Runs.{clock_on, first_own, memory_on, next_own, next_run, run_on, untold}
use Rattle.span_seen.proofs.Telling.{IsOwn, clock_mark}

-- what is known after the first n clocks
abbrev known_after : Setup → Span → List Line → ℕ → Assumed
known_after u sp lines n = assumed_from (events_in sp) 0 nothing_missed (conducts (first_run u) lines n)

known-more : (u : Setup) (sp : Span) (lines : List Line) (n : ℕ) → known_after u sp lines (suc n) ≡ assumed_after (events_in sp) n (conduct_at (first_run u) lines n) (known_after u sp lines n)
unfolding conducts
known-more u sp lines n =
    let told = conducts (first_run u) lines n in
    assumed-more (events_in sp) nothing_missed told (conduct_at (first_run u) lines n)
    ∙ ap (λ (k : ℕ). assumed_after (events_in sp) k (conduct_at (first_run u) lines n) (known_after u sp lines n)) (length-conducts (first_run u) lines n)

-- the span's machine, with what is known
record IsKnownOf (m : ℕ → Mark) (id n : ℕ) (r : Run) (a : Assumed) : Type 0 where
  own : IsOwn r.state id n
  known : IsKnown m n own.slot a

-- the mark of a clock
mark_is : (u : Setup) (sp : Span) (lines : List Line) (n : ℕ) → clock_mark sp (host_of (first_run u) lines n) (run_on u lines n) ≡ marks_in sp u lines n
unfolding mark_of hosted_at hosted_next
mark_is u sp lines n =
    let d = host_of (first_run u) lines n in
    let r = run_on u lines n in
    ap (λ (memory : List ℕ). mark_of sp memory (seen_in d r) d r.state (next d r).state) (memory_on u lines n)

one_clock : (u : Setup) (sp : Span) (lines : List Line) (n : ℕ) (a : Assumed) → IsKnownOf (marks_in sp u lines) sp.machine n (run_on u lines n) a
    → IsKnownOf (marks_in sp u lines) sp.machine (suc n) (next (host_of (first_run u) lines n) (run_on u lines n)) (assumed_after (events_in sp) n (conduct_at (first_run u) lines n) a)
unfolding conduct_before next_own
one_clock u sp lines n a h =
    let d = host_of (first_run u) lines n in
    let r = run_on u lines n in
    let c = conduct_at (first_run u) lines n in
    let own = h.own in
    let after = slot_after (view_of r.memory (seen_in d r) r.state) d own.slot in
    let then = next_own d r sp.machine n own in
    let same = mark_is u sp lines n in
    let told = end_told sp d r (conduct_before (first_run u) lines n) n (clock_on u lines n) own (untold u lines sp.machine n) in
    let did = conduct_of n sp.machine c in
    record {
      own = then;
      known = known_next sp (marks_in sp u lines) n own.slot after a did own.clock_is then.clock_is
          (subst (λ (m : Mark). Tells sp n m own.slot after did) same told)
          (ap (λ (m : Mark). m.rested) (sym same) ∙ rest_told sp d r n own)
          h.known;
    }

all_known : (u : Setup) (sp : Span) (lines : List Line) (s : MachineSetup) → slice_index_or u.machines sp.machine None ≡ Some s
    → (n : ℕ) → IsKnownOf (marks_in sp u lines) sp.machine n (run_on u lines n) (known_after u sp lines n)
unfolding hosted_at conducts assumed_from
all_known u sp lines s configured zero = record {
  own = first_own u sp s configured;
  known = inl (record {
    assumed = λ f c misses low below. absurd (omega arith);
    missed = λ missed. cc;
    kept = λ none f low. absurd (omega arith);
  });
}
all_known u sp lines s configured (suc n) =
    let m = marks_in sp u lines in
    subst (λ (r : Run). IsKnownOf m sp.machine (suc n) r (known_after u sp lines (suc n))) (sym (next_run u lines n))
    (subst (IsKnownOf m sp.machine (suc n) (next (host_of (first_run u) lines n) (run_on u lines n))) (sym (known-more u sp lines n))
    (one_clock u sp lines n (known_after u sp lines n) (all_known u sp lines s configured n)))

pub told_end : (u : Setup) (sp : Span) (lines : List Line) (s : MachineSetup) → slice_index_or u.machines sp.machine None ≡ Some s
    → (n : ℕ) → IsAssumedUpTo (marks_in sp u lines) n (assumed_up_to (events_in sp) (conducts (first_run u) lines n))
unfolding assumed_up_to
told_end u sp lines s configured n =
    let h = all_known u sp lines s configured n in
    let a = known_after u sp lines n in
    subst (λ (k : ℕ). IsAssumedUpTo (marks_in sp u lines) n (end_before k a)) (sym (length-conducts (first_run u) lines n))
    (known_end (marks_in sp u lines) n h.own.slot a h.own.clock_is h.known)

-- and what is measured has it
by_kind : (selects : Bool) (P : Option ℕ → Type 0) (chosen every : SeenDistances) → P chosen.assumed → (selects ≡ false → chosen.assumed ≡ every.assumed) → P (cond selects chosen every).assumed
by_kind true P chosen every h same = h
by_kind false P chosen every h same = subst P (same refl) h

pub measured_end : (u : Setup) (sp : Span) → IsSome (slice_index_or u.machines sp.machine None) → (lines : List Line) (n : ℕ) → IsAssumedUpTo (marks_in sp u lines) n (measured_in u sp lines n).assumed
unfolding spoken_seen
measured_end u sp some lines n = on (slice_index_or u.machines sp.machine None) refl some where
  on : (o : Option MachineSetup) → slice_index_or u.machines sp.machine None ≡ o → IsSome o → IsAssumedUpTo (marks_in sp u lines) n (measured_in u sp lines n).assumed
  on None e h = cc
  on (Some s) e h =
      by_kind (is_selective sp) (IsAssumedUpTo (marks_in sp u lines) n) _ _ (told_end u sp lines s e n)
      (λ plain. no_assumption (events_in sp) (conducts (first_run u) lines n) (plain_assumes sp plain))
