-- A run along the checker's table, clock by clock.
use Rattle.std.proofs.Common.{◌≡◌, ℕ, zero, suc, ◌+◌, ◌<◌, ◌≤◌, ◌⊎◌, Bool, true, false, Option, Some, None, slice_index_or, inl, inr, refl, sym, ◌∙◌, subst, arith}
use Rattle.pin_matrix.specs.declared.machine.MachineSetup.{MachineSetup}
use Rattle.pin_matrix.specs.declared.setup.Setup.{Setup}
use Rattle.pin_matrix.specs.declared.span.Span.{Span}
use Rattle.dreq_pacing.specs.declared.due.Due.{Due}
use Rattle.block_core.specs.Slots.{Slot}
use Rattle.block_core.specs.Block.{BlockState}
use Rattle.span_step.specs.declared.ages.Ages.{Ages}
use Rattle.span_step.specs.Contexts.{Context}
use Rattle.span_step.specs.Steps.{bounds_of, is_bounded}
use Rattle.span_ticks.specs.Rows.{IsSoundTable}
use Rattle.span_ticks.specs.UnderWay.{Watch}
use Rattle.span_check.specs.Marks.{Mark}
use Rattle.span_check.specs.Holding.{counted, IsAssumed, IsQuiet, IsUnexcused}
use Rattle.span_check.specs.Runs.{marks_over}
use Rattle.span_check.proofs.Counting.{one_if, counted-suc, counted-none, free-before, assumed-before, AreOpen, open-after}
use Rattle.span_check.proofs.Premises.{Laws}
use Rattle.span_check.proofs.Steps.{Fits, IsGoing, IsAfter, GoesOn, one_clock}

-- a run of a setup along a table: what the proof asks of it
pub record IsBeside (u : Setup) (sp : Span) (rows : Context → Option Ages) (s : MachineSetup) (seen : ℕ → ℕ) (host : ℕ → Due) (states : ℕ → BlockState) : Type 0 where
  pub configured : slice_index_or u.machines sp.machine None ≡ Some s
  pub sound : IsSoundTable u sp rows
  pub m : Slot
  pub w : Watch
  pub start : IsGoing u sp rows s true (states 0) m w
  pub after : (c : ℕ) → IsAfter sp u.memory (seen c) (host c) (states c) (states (suc c))

-- an instruction before clock c left X or Y otherwise than assumed
pub record Missed (marks : ℕ → Mark) (c : ℕ) : Type 0 where
  pub clock : ℕ
  pub before : clock < c
  pub misses : (marks clock).misses ≡ true

-- the machine at the start of clock c, with what was counted since each from-edge that is open
pub record IsThere (u : Setup) (sp : Span) (rows : Context → Option Ages) (s : MachineSetup) (marks : ℕ → Mark) (b : BlockState) (c : ℕ) : Type 0 where
  pub m : Slot
  pub w : Watch
  pub kept : Bool
  pub missed : kept ≡ false → Missed marks c
  pub going : IsGoing u sp rows s kept b m w
  pub ages : AreOpen marks (λ from. Fits (is_bounded sp) (bounds_of sp s).1 (counted marks from c) w.ages) c

-- what a clock is for a from-edge since which so many ticks counted
pub record IsFine (bounded : Bool) (min max : ℕ) (k : Mark) (n : ℕ) : Type 0 where
  pub most : bounded ≡ true → n + one_if k.counts ≤ max
  pub least : k.to ≡ true → min ≤ n + one_if k.counts
  pub strays : bounded ≡ true → k.strays ≡ false

missed_after : (marks : ℕ → Mark) (c : ℕ) (Before : Type 0) → (Before → Missed marks c) → ((marks c).misses ≡ true) ⊎ Before → Missed marks (suc c)
missed_after marks c Before h (inl now) = record { clock = c; before = omega arith; misses = now }
missed_after marks c Before h (inr early) = let p = h early in record { clock = p.clock; before = omega (arith, p.before); misses = p.misses }

-- as long as X and Y are as assumed, a machine that rests keeps them so
rests : (marks : ℕ → Mark) (c : ℕ) (keeps : Bool) → IsAssumed marks (suc c) → (keeps ≡ false → Missed marks (suc c)) → (marks c).rested ≡ true → keeps ≡ true
rests marks c true assumed missed e = refl
rests marks c false assumed missed e =
    let p = missed refl in
    sym (assumed p.clock c p.misses (omega (arith, p.before)) (omega arith)) ∙ e

module _ (laws : Laws) (u : Setup) (sp : Span) (rows : Context → Option Ages) (s : MachineSetup) (seen : ℕ → ℕ) (host : ℕ → Due) (states : ℕ → BlockState) (b : IsBeside u sp rows s seen host states) where
  next_clock : (c : ℕ) → (there : IsThere u sp rows s (marks_over sp u.memory seen host states) (states c) c) → GoesOn u sp rows s there.kept (states (suc c)) (marks_over sp u.memory seen host states c) there.w.ages
  next_clock c there =
      one_clock laws u sp rows s b.configured b.sound (seen c) (host c) (states c) (states (suc c)) there.m there.kept there.w (b.after c) there.going

  there_after : (c : ℕ) → IsAssumed (marks_over sp u.memory seen host states) (suc c) → IsThere u sp rows s (marks_over sp u.memory seen host states) (states c) c → IsThere u sp rows s (marks_over sp u.memory seen host states) (states (suc c)) (suc c)
  there_after c assumed there =
      let marks : ℕ → Mark = marks_over sp u.memory seen host states in
      let bounded : Bool = is_bounded sp in
      let max : ℕ = (bounds_of sp s).1 in
      let next = next_clock c there in
      let missed : next.keeps ≡ false → Missed marks (suc c) = λ e. missed_after marks c (there.kept ≡ false) there.missed (next.misses e) in
      record {
        m = next.m;
        w = next.w;
        kept = next.keeps;
        missed = missed;
        going = next.going (rests marks c next.keeps assumed missed);
        ages = open-after marks (λ from. Fits bounded max (counted marks from c) there.w.ages) (λ from. Fits bounded max (counted marks from (suc c)) next.w.ages) c
            (λ from earlier quiet free h. subst (λ k. Fits bounded max k next.w.ages) (sym (counted-suc marks from c earlier)) (next.goes.stays free (counted marks from c) h quiet))
            (λ edge. subst (λ k. Fits bounded max k next.w.ages) (sym (counted-none marks c (suc c) (omega arith))) (next.goes.fresh edge))
            there.ages;
      }

  pub there : (c : ℕ) → IsAssumed (marks_over sp u.memory seen host states) c → IsThere u sp rows s (marks_over sp u.memory seen host states) (states c) c
  there zero assumed = record { m = b.m; w = b.w; kept = true; missed = λ e. absurd (let x : true ≡ false = e in cc); going = b.start; ages = λ from below. absurd (omega (arith, below)) }
  there (suc c) assumed = there_after c assumed (there c (assumed-before (marks_over sp u.memory seen host states) c assumed))

  -- each clock is fine for each from-edge that is open and not excused
  pub fine : (c : ℕ) → let marks = marks_over sp u.memory seen host states in (from : ℕ) → from < c → (marks from).from ≡ true → IsQuiet marks from c → IsUnexcused marks from (suc c) → IsAssumed marks (suc c)
      → IsFine (is_bounded sp) (bounds_of sp s).0 (bounds_of sp s).1 (marks c) (counted marks from c)
  fine c from below edge quiet free assumed =
      let at = there c (assumed-before (marks_over sp u.memory seen host states) c assumed) in
      let fits = at.ages from below edge quiet (free-before (marks_over sp u.memory seen host states) from c free) in
      let next = next_clock c at in
      let now = free c below (omega arith) in
      record { most = next.goes.most now _ fits; least = next.goes.least now _ fits; strays = next.goes.strays now _ fits }
