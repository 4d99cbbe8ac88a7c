-- Two blocks in clocks in which nothing stirs and the system does nothing, and when one of them next stirs.
use Rattle.std.proofs.Common.{◌≡◌, ℕ, zero, suc, ◌<◌, Bool, true, false, ◌||◌, Option, Some, refl, ap, sym, ◌∙◌, subst, arith, add-one}
use Rattle.std.proofs.lemmas.Bool.{or_parts}
use Rattle.dreq_pacing.specs.Due.{quiet}
use Rattle.dreq_pacing.specs.Ports.{IsFirst}
use Rattle.block_core.specs.Kept.{AreTold}
use Rattle.block_core.specs.Leaps.{CalmLaws, leapt}
use Rattle.block_core.specs.Stirring.{moves_on_over, machines_stir_over, pads_change_over}
use Rattle.block_core.specs.Twin.{TwinRun, twin_pads_in, twin_next, twin_from, leapt_twin, twin_pads_change, twin_moves_on}
use Rattle.block_core.proofs.Firsts.{first_same, first_while}
use Rattle.block_core.proofs.LeaptRun.{leaps_once_over, leapt-once_more, leapt-none}
use Rattle.block_core.proofs.PlacesTold.{told_leapt}

-- in both the flags of stalls are up
pub record AreBothTold (t : TwinRun) : Type 0 where
  pub first : AreTold t.first.memory t.first.state.machines
  pub second : AreTold t.second.memory t.second.state.machines

both_told_leapt : (n : ℕ) (t : TwinRun) → AreBothTold t → AreBothTold (leapt_twin n t)
unfolding leapt
both_told_leapt n t told = record {
  first = told_leapt t.first.memory n t.first.state.machines told.first;
  second = told_leapt t.second.memory n t.second.state.machines told.second;
}

-- one such clock, and one more
twin_leaps_once : CalmLaws → (t : TwinRun) → AreBothTold t → twin_moves_on quiet quiet t ≡ false → twin_next quiet quiet t ≡ leapt_twin 1 t
unfolding twin_next twin_moves_on
twin_leaps_once laws t told h =
    let pad = twin_pads_in quiet t in
    let parts = or_parts (moves_on_over pad quiet t.first) (moves_on_over pad quiet t.second) h in
    rw (leaps_once_over laws pad t.first told.first parts.0, leaps_once_over laws pad t.second told.second parts.1) refl

leapt_twin-once_more : (n : ℕ) (t : TwinRun) → leapt_twin 1 (leapt_twin n t) ≡ leapt_twin (suc n) t
leapt_twin-once_more n t =
    rw (leapt-once_more n t.first, leapt-once_more n t.second) (ap (λ k. leapt_twin k t) (add-one n))

leapt_twin-none : (t : TwinRun) → leapt_twin 0 t ≡ t
leapt_twin-none t = rw (leapt-none t.first, leapt-none t.second) refl

twin_leaps_more : CalmLaws → (t : TwinRun) → AreBothTold t → (n : ℕ) → twin_from t (λ c. quiet) (λ c. quiet) n ≡ leapt_twin n t → twin_moves_on quiet quiet (leapt_twin n t) ≡ false → twin_from t (λ c. quiet) (λ c. quiet) (suc n) ≡ leapt_twin (suc n) t
unfolding twin_from
twin_leaps_more laws t told n before calm =
    ap (twin_next quiet quiet) before
    ∙ twin_leaps_once laws (leapt_twin n t) (both_told_leapt n t told) calm
    ∙ leapt_twin-once_more n t

-- clocks in which nothing stirs, by both as they go on, or as they rest
pub twin_leaps : CalmLaws → (t : TwinRun) → AreBothTold t → (n : ℕ) → ((k : ℕ) → k < n → twin_moves_on quiet quiet (twin_from t (λ c. quiet) (λ c. quiet) k) ≡ false) → twin_from t (λ c. quiet) (λ c. quiet) n ≡ leapt_twin n t
unfolding twin_from
twin_leaps laws t told zero h = sym (leapt_twin-none t)
twin_leaps laws t told (suc n) h =
    let before = twin_leaps laws t told n (λ k lt. h k (omega (arith, lt))) in
    twin_leaps_more laws t told n before (ap (twin_moves_on quiet quiet) (sym before) ∙ h n (omega arith))

twin_leaps_by : CalmLaws → (t : TwinRun) → AreBothTold t → (n : ℕ) → ((k : ℕ) → k < n → twin_moves_on quiet quiet (leapt_twin k t) ≡ false) → twin_from t (λ c. quiet) (λ c. quiet) n ≡ leapt_twin n t
unfolding twin_from
twin_leaps_by laws t told zero h = sym (leapt_twin-none t)
twin_leaps_by laws t told (suc n) h =
    twin_leaps_more laws t told n (twin_leaps_by laws t told n (λ k lt. h k (omega (arith, lt)))) (h n (omega arith))

-- Once both have leapt, over pads that don't change, a machine of one stirs where one of the two moves on.
only_machines : (a b p q : Bool) → (p || q) ≡ false → ((a || p) || (b || q)) ≡ ((false || a) || b)
only_machines a b true q h = cc
only_machines a b false true h = cc
only_machines true b false false h = refl
only_machines false true false false h = refl
only_machines false false false false h = refl

moves_leapt : (t : TwinRun) (pad : ℕ) → pad ≡ twin_pads_in quiet t → twin_pads_change pad t ≡ false → (n : ℕ) → twin_moves_on quiet quiet (leapt_twin n t) ≡ ((false || machines_stir_over pad quiet (leapt n t.first)) || machines_stir_over pad quiet (leapt n t.second))
unfolding twin_moves_on leapt
moves_leapt t pad is settled n =
    let own = twin_pads_in quiet t in
    subst (λ p. twin_pads_change p t ≡ false → twin_moves_on quiet quiet (leapt_twin n t) ≡ ((false || machines_stir_over p quiet (leapt n t.first)) || machines_stir_over p quiet (leapt n t.second))) (sym is)
    (λ s. only_machines (machines_stir_over own quiet (leapt n t.first)) (machines_stir_over own quiet (leapt n t.second)) (pads_change_over own t.first) (pads_change_over own t.second) s) settled

pub twin_first_moves : CalmLaws → (t : TwinRun) (pad : ℕ) (result : Option ℕ) → pad ≡ twin_pads_in quiet t → twin_pads_change pad t ≡ false → AreBothTold t → IsFirst (λ n. (false || machines_stir_over pad quiet (leapt n t.first)) || machines_stir_over pad quiet (leapt n t.second)) 0 result → IsFirst (λ n. twin_moves_on quiet quiet (twin_from t (λ c. quiet) (λ c. quiet) n)) 0 result
twin_first_moves laws t pad result is settled told h =
    first_while (λ n. twin_moves_on quiet quiet (leapt_twin n t)) (λ n. twin_moves_on quiet quiet (twin_from t (λ c. quiet) (λ c. quiet) n)) result
    (λ n calm. ap (twin_moves_on quiet quiet) (twin_leaps_by laws t told n calm))
    (first_same _ (λ n. twin_moves_on quiet quiet (leapt_twin n t)) result (moves_leapt t pad is settled) h)

-- pads that change move one of the two on at once
at_once : (a b p q : Bool) → (p || q) ≡ true → ((a || p) || (b || q)) ≡ true
at_once true b p q h = refl
at_once false b true q h = refl
at_once false true false q h = refl
at_once false false false q h = h

pub twin_moves_at_once : (t : TwinRun) (pad : ℕ) → pad ≡ twin_pads_in quiet t → twin_pads_change pad t ≡ true → IsFirst (λ n. twin_moves_on quiet quiet (twin_from t (λ c. quiet) (λ c. quiet) n)) 0 (Some 0)
unfolding twin_moves_on twin_from
twin_moves_at_once t pad is h = (
  omega arith,
  (let own = twin_pads_in quiet t in
      at_once (machines_stir_over own quiet t.first) (machines_stir_over own quiet t.second) (pads_change_over own t.first) (pads_change_over own t.second) (ap (λ p. twin_pads_change p t) (sym is) ∙ h)),
  λ c le lt. absurd (omega (arith, lt)),
)

-- in clocks in which neither moves on no machine stirs
pub record AreBothCalm (pad : ℕ) (t : TwinRun) (n : ℕ) : Type 0 where
  pub first : machines_stir_over pad quiet (leapt n t.first) ≡ false
  pub second : machines_stir_over pad quiet (leapt n t.second) ≡ false

both_calm : (t : TwinRun) (pad k : ℕ) → pad ≡ twin_pads_in quiet t → twin_moves_on quiet quiet (leapt_twin k t) ≡ false → AreBothCalm pad t k
unfolding twin_moves_on leapt
both_calm t pad k is h =
    let own = twin_pads_in quiet t in
    let two = or_parts (moves_on_over own quiet (leapt k t.first)) (moves_on_over own quiet (leapt k t.second)) h in
    subst (λ p. AreBothCalm p t k) (sym is) (record {
      first = (or_parts (machines_stir_over own quiet (leapt k t.first)) (pads_change_over own t.first) two.0).0;
      second = (or_parts (machines_stir_over own quiet (leapt k t.second)) (pads_change_over own t.second) two.1).0;
    })

pub twin_machines_calm : CalmLaws → (t : TwinRun) (pad n : ℕ) → pad ≡ twin_pads_in quiet t → AreBothTold t → ((k : ℕ) → k < n → twin_moves_on quiet quiet (twin_from t (λ c. quiet) (λ c. quiet) k) ≡ false) → (k : ℕ) → k < n → AreBothCalm pad t k
twin_machines_calm laws t pad n is told h k lt =
    let leaps_so_far = twin_leaps laws t told k (λ j below. h j (omega (arith, below, lt))) in
    both_calm t pad k is (ap (twin_moves_on quiet quiet) (sym leaps_so_far) ∙ h k lt)
