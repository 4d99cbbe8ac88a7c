-- The laws of two blocks on one set of pins, clock by clock.
use Rattle.std.proofs.Common.{◌≡◌, ℕ, zero, suc, ◌+◌, ◌-◌, ◌^◌, ◌<◌, ◌==◌, eqb, min, max, cond, if◌then◌else◌, not, ◌&&◌, ◌||◌, Bool, true, false, List, refl, ap, sym, ◌∙◌, arith, w32, bit_and}
use Rattle.std.proofs.lemmas.Bool.Decides.{nat_tests}
use Rattle.std.proofs.lemmas.Nat.{or_lt, and_le_l}
use Rattle.std.proofs.lemmas.Nat.Bits.{bit_at_and, bit_at_or, bit_at_not, bit_at-lt}
use Rattle.std.specs.Int.{bit_at}
use Rattle.pin_matrix.specs.declared.setup.Setup.{Setup}
use Rattle.pin_matrix.specs.Pads.{pads_of, seen_of}
use Rattle.dreq_pacing.specs.declared.due.Due.{Due}
use Rattle.dreq_pacing.specs.declared.line.Line.{Line}
use Rattle.block_core.specs.Block.{BlockState}
use Rattle.block_core.specs.Following.{Follows}
use Rattle.block_core.specs.HostedTwin.{twin_of, hosted_twin_next, hosted_twin_at, first_host_of, second_host_of}
use Rattle.block_core.specs.Twin.{TwinRun, of_owners, shared_pads, twin_next, twin_from, twin_at, first_twin, twin_pad_at, last_twin_pad, twin_pad_before, twin_pads_change}

-- the clock's number and the memories
pub clocks-twin_from : (t : TwinRun) (first second : ℕ → Due) (c : ℕ) → ((twin_from t first second c).first.clock ≡ t.first.clock + c) × ((twin_from t first second c).second.clock ≡ t.second.clock + c)
unfolding twin_from twin_next
clocks-twin_from t first second zero = (omega arith, omega arith)
clocks-twin_from t first second (suc c) = let before = clocks-twin_from t first second c in (omega (arith, before.0), omega (arith, before.1))

memories-twin_from : (t : TwinRun) (first second : ℕ → Due) (c : ℕ) → ((twin_from t first second c).first.memory ≡ t.first.memory) × ((twin_from t first second c).second.memory ≡ t.second.memory)
unfolding twin_from twin_next
memories-twin_from t first second zero = (refl, refl)
memories-twin_from t first second (suc c) = memories-twin_from t first second c

bypass-twin_from : (t : TwinRun) (first second : ℕ → Due) (c : ℕ) → ((twin_from t first second c).first.synchroniser.bypass ≡ t.first.synchroniser.bypass) × ((twin_from t first second c).second.synchroniser.bypass ≡ t.second.synchroniser.bypass)
unfolding twin_from twin_next
bypass-twin_from t first second zero = (refl, refl)
bypass-twin_from t first second (suc c) = bypass-twin_from t first second c

-- the synchronisers of both hold the pads of the two clocks before
pad_2-twin_at : (own : ℕ) (s t : Setup) (first second : ℕ → Due) (c : ℕ) → ((twin_at own s t first second c).first.synchroniser.pad_2 ≡ twin_pad_before own s t first second c) × ((twin_at own s t first second c).second.synchroniser.pad_2 ≡ twin_pad_before own s t first second c)
unfolding twin_from twin_next
pad_2-twin_at own s t first second zero = (refl, refl)
pad_2-twin_at own s t first second (suc zero) = (refl, refl)
pad_2-twin_at own s t first second (suc (suc c)) = (refl, refl)

pad_1-twin_at : (own : ℕ) (s t : Setup) (first second : ℕ → Due) (c : ℕ) → ((twin_at own s t first second c).first.synchroniser.pad_1 ≡ last_twin_pad own s t first second c) × ((twin_at own s t first second c).second.synchroniser.pad_1 ≡ last_twin_pad own s t first second c)
unfolding twin_from twin_next
pad_1-twin_at own s t first second zero = (refl, refl)
pad_1-twin_at own s t first second (suc c) = (refl, refl)

or_same : (b : Bool) → (b || b) ≡ b
or_same true = refl
or_same false = refl

pub changes_at_both : (own : ℕ) (s t : Setup) (first second : ℕ → Due) (c : ℕ) →
    let pad = twin_pad_at own s t first second c in
    twin_pads_change pad (twin_at own s t first second c) ≡ not ((pad == last_twin_pad own s t first second c) && (pad == twin_pad_before own s t first second c))
changes_at_both own s t first second c =
    let one = pad_1-twin_at own s t first second c in
    let two = pad_2-twin_at own s t first second c in
    rw (one.0, one.1, two.0, two.1) (or_same _)

pub first_follows : (own : ℕ) (s t : Setup) (first second : ℕ → Due) → Follows s.memory (λ c. seen_of s.bypass (twin_pad_at own s t first second c) (twin_pad_before own s t first second c)) first (λ c. (twin_at own s t first second c).first.state)
unfolding twin_from twin_next
first_follows own s t first second c =
    rw (
      (memories-twin_from (first_twin own s t) first second c).0,
      (bypass-twin_from (first_twin own s t) first second c).0,
      (pad_2-twin_at own s t first second c).0,
    ) refl

pub second_follows : (own : ℕ) (s t : Setup) (first second : ℕ → Due) → Follows t.memory (λ c. seen_of t.bypass (twin_pad_at own s t first second c) (twin_pad_before own s t first second c)) second (λ c. (twin_at own s t first second c).second.state)
unfolding twin_from twin_next
second_follows own s t first second c =
    rw (
      (memories-twin_from (first_twin own s t) first second c).1,
      (bypass-twin_from (first_twin own s t) first second c).1,
      (pad_2-twin_at own s t first second c).1,
    ) refl

-- with stimuli
pub twin-hosted_at : (start : TwinRun) (first second : List Line) (c : ℕ) → twin_of (hosted_twin_at start first second c) ≡ twin_from start (first_host_of start first second) (second_host_of start first second) c
unfolding twin_from hosted_twin_at hosted_twin_next twin_next
twin-hosted_at start first second zero = refl
twin-hosted_at start first second (suc c) = ap (twin_next (first_host_of start first second c) (second_host_of start first second c)) (twin-hosted_at start first second c)

-- of each pin the bit of its owner
owner_bit : (own first second : ℕ) → own < 2 → first < 2 → second < 2 → max (min first (1 - own)) (min second own) ≡ cond (eqb own 1) second first
owner_bit own first second p q r = grind (arith, nat_tests)

masked : (word mask p : ℕ) → mask < 2 ^ 32 → p < 32 → min (bit_at word p) (1 - bit_at mask p) ≡ min (bit_at word p) (bit_at (2 ^ 32 - 1 - mask) p)
masked word mask p below inside = ap (min (bit_at word p)) (sym (bit_at_not w32 mask p below inside))

pub bit_at-of_owners : (own first second p : ℕ) → own < 2 ^ 32 → p < 32 → bit_at (of_owners own first second) p ≡ (if bit_at own p == 1 then bit_at second p else bit_at first p)
bit_at-of_owners own first second p below inside =
    bit_at_or (bit_and first (2 ^ 32 - 1 - own)) (bit_and second own) p
    ∙ ap (λ m. max m (bit_at (bit_and second own) p)) (bit_at_and first (2 ^ 32 - 1 - own) p ∙ sym (masked first own p below inside))
    ∙ ap (max (min (bit_at first p) (1 - bit_at own p))) (bit_at_and second own p)
    ∙ owner_bit (bit_at own p) (bit_at first p) (bit_at second p) (bit_at-lt own p) (bit_at-lt first p) (bit_at-lt second p)

of_owners-lt : (own first second : ℕ) → first < 2 ^ 32 → second < 2 ^ 32 → of_owners own first second < 2 ^ 32
of_owners-lt own first second p q =
    or_lt 32 (bit_and first (2 ^ 32 - 1 - own)) (bit_and second own)
    (omega (arith, and_le_l first (2 ^ 32 - 1 - own), p)) (omega (arith, and_le_l second own, q))

-- the law of pads, pin by pin
abbrev pub PadLaw : Type 0
PadLaw =
    (level direction outside p : ℕ) → direction < 2 ^ 32 → p < 32 →
    bit_at (pads_of level direction outside) p ≡ (if bit_at direction p == 1 then bit_at level p else bit_at outside p)

pub bit_at-shared_pads : PadLaw → (own : ℕ) (first second : BlockState) (outside p : ℕ) → own < 2 ^ 32 → first.directions < 2 ^ 32 → second.directions < 2 ^ 32 → p < 32 → bit_at (shared_pads own first second outside) p ≡ (if bit_at own p == 1 then (if bit_at second.directions p == 1 then bit_at second.levels p else bit_at outside p) else (if bit_at first.directions p == 1 then bit_at first.levels p else bit_at outside p))
bit_at-shared_pads law own first second outside p below one other inside =
    law (of_owners own first.levels second.levels) (of_owners own first.directions second.directions) outside p (of_owners-lt own first.directions second.directions one other) inside
    ∙ picks (bit_at own p == 1) _ _ _ _ (bit_at outside p) _ _ (bit_at-of_owners own first.directions second.directions p below inside) (bit_at-of_owners own first.levels second.levels p below inside)
  where
    picks : (owns : Bool) (d e l m outside direction level : ℕ) → direction ≡ cond owns e d → level ≡ cond owns m l → cond (direction == 1) level outside ≡ cond owns (cond (e == 1) m outside) (cond (d == 1) l outside)
    picks true d e l m outside direction level h k = rw (h, k) refl
    picks false d e l m outside direction level h k = rw (h, k) refl
