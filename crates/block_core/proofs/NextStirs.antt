-- When a block next stirs, and what it is until then.
use Rattle.std.proofs.Common.{◌≡◌, ℕ, ◌<◌, Bool, true, false, not, ◌||◌, Option, Some, None, List, [], ◌∷◌, map, refl, ap, sym, ◌∙◌, subst, arith}
use Rattle.std.proofs.lemmas.Bool.{or_right, or_parts}
use Rattle.sm_registers.specs.declared.shown.Shown.{Shown}
use Rattle.dreq_pacing.specs.Due.{quiet}
use Rattle.dreq_pacing.specs.Ports.{IsFirst}
use Rattle.block_core.specs.Block.{Run, pads_in, run_from}
use Rattle.block_core.specs.Kept.{AreTold}
use Rattle.block_core.specs.Leaps.{CalmLaws, leapt_place, leapt}
use Rattle.block_core.specs.Shown.{shown_in, requests_of, sample_of}
use Rattle.block_core.specs.Slots.{Slot}
use Rattle.block_core.specs.Stirring.{moves_on, machines_stir_over, pads_change_over, pads_change}
use Rattle.block_core.proofs.Firsts.{first_same, first_while}
use Rattle.block_core.proofs.LeaptRun.{rests, leaps_by}

-- Once it has leapt, over pads that don't change, it moves on where a machine stirs.
only_machines : (a p : Bool) → p ≡ false → (a || p) ≡ (false || a)
only_machines false p h = h
only_machines true p h = refl

moves_leapt : (r : Run) (pad : ℕ) → pad ≡ pads_in quiet r.state → pads_change_over pad r ≡ false → (n : ℕ) → moves_on quiet (leapt n r) ≡ (false || machines_stir_over pad quiet (leapt n r))
unfolding moves_on leapt
moves_leapt r pad is settled n =
    subst (λ p. pads_change_over p r ≡ false → moves_on quiet (leapt n r) ≡ (false || machines_stir_over p quiet (leapt n r))) (sym is)
    (λ s. only_machines (machines_stir_over (pads_in quiet r.state) quiet (leapt n r)) (pads_change_over (pads_in quiet r.state) r) s) settled

pub first_moves : CalmLaws → (r : Run) (pad : ℕ) (result : Option ℕ) → pad ≡ pads_in quiet r.state → pads_change_over pad r ≡ false → AreTold r.memory r.state.machines → IsFirst (λ n. false || machines_stir_over pad quiet (leapt n r)) 0 result → IsFirst (λ n. moves_on quiet (run_from r (λ c. quiet) n)) 0 result
first_moves laws r pad result is settled told h =
    first_while (λ n. moves_on quiet (leapt n r)) (λ n. moves_on quiet (run_from r (λ c. quiet) n)) result (λ n calm. ap (moves_on quiet) (leaps_by laws r told n calm))
    (first_same _ (λ n. moves_on quiet (leapt n r)) result (moves_leapt r pad is settled) h)

-- pads that change move it on at once
pub moves_at_once : (r : Run) (pad : ℕ) → pad ≡ pads_in quiet r.state → pads_change_over pad r ≡ true → IsFirst (λ n. moves_on quiet (run_from r (λ c. quiet) n)) 0 (Some 0)
unfolding moves_on run_from
moves_at_once r pad is h =
    (omega arith, or_right _ _ (ap (λ p. pads_change_over p r) (sym is) ∙ h), λ c le lt. absurd (omega (arith, lt)))

-- in clocks in which it doesn't move on no machine stirs
stir_parts : (r : Run) (pad k : ℕ) → pad ≡ pads_in quiet r.state → moves_on quiet (leapt k r) ≡ false → machines_stir_over pad quiet (leapt k r) ≡ false
unfolding moves_on leapt
stir_parts r pad k is h =
    subst (λ p. machines_stir_over p quiet (leapt k r) ≡ false) (sym is)
    (or_parts (machines_stir_over (pads_in quiet r.state) quiet (leapt k r)) (pads_change quiet r) h).0

pub machines_calm : CalmLaws → (r : Run) (pad n : ℕ) → pad ≡ pads_in quiet r.state → AreTold r.memory r.state.machines → ((k : ℕ) → k < n → moves_on quiet (run_from r (λ c. quiet) k) ≡ false) → (k : ℕ) → k < n → machines_stir_over pad quiet (leapt k r) ≡ false
machines_calm laws r pad n is told h k lt =
    let leaps_so_far = rests laws r told k (λ j below. h j (omega (arith, below, lt))) in
    stir_parts r pad k is (ap (moves_on quiet) (sym leaps_so_far) ∙ h k lt)

-- what it shows, and what its machines ask for
pub shown_leaps : (n : ℕ) (place : Option Slot) → shown_in (leapt_place n place) ≡ shown_in place
shown_leaps n None = refl
shown_leaps n (Some s) = refl

all_show : {T : Type 0} (f : Shown → T) (n : ℕ) (places : List (Option Slot)) → map (λ m. f (shown_in m)) (map (leapt_place n) places) ≡ map (λ m. f (shown_in m)) places
all_show f n [] = refl
all_show f n (place ∷ places) = rw (shown_leaps n place, all_show f n places) refl

pub requests_leap : (r : Run) (n : ℕ) → requests_of (leapt n r).state ≡ requests_of r.state
unfolding leapt requests_of
requests_leap r n =
    let places = r.state.machines in
    rw (all_show (λ s. not s.tx_full) n places, all_show (λ s. not s.rx_empty) n places) refl

pub sample_leaps : (r : Run) (n : ℕ) → sample_of (leapt n r).state ≡ sample_of r.state
unfolding leapt sample_of
sample_leaps r n =
    let places = r.state.machines in
    rw (
      all_show (λ s. s.tx) n places,
      all_show (λ s. s.rx) n places,
      all_show (λ s. s.got) n places,
      all_show (λ s. s.sticky) n places,
    ) refl
