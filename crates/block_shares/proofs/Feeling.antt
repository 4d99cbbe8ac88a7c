-- That a machine is alone, from what it can feel of each other one.
use Rattle.std.proofs.Common.{◌≡◌, ◌≢◌, ℕ, zero, suc, ◌==◌, Bool, true, false, not, ◌&&◌, ◌||◌, ◌↔◌, refl, ap, inl, inr, arith}
use Rattle.std.proofs.lemmas.Bool.{and_parts, and_right, cases_eq, eqb-true, not-true, or_from}
use Rattle.std.proofs.lemmas.Bool.Decides.{nat_tests}
use Rattle.pin_matrix.specs.declared.setup.Setup.{Setup}
use Rattle.block_shares.specs.Shares.{shares_of, IsAlone}
use Rattle.block_shares.specs.Report.{is_nothing, feels, feels_any}

none_of : (a b : Bool) → not (a || b) ≡ true → (a ≡ false) × (not b ≡ true)
none_of true b h = cc
none_of false b h = (refl, h)

nothing : (x : ℕ × ℕ) → is_nothing x ≡ true → x ≡ (0, 0)
nothing (a, b) h =
    let parts = and_parts (a == 0) (b == 0) h in
    let e : a ≡ 0 = eqb-true a 0 parts.0 in
    let f : b ≡ 0 = eqb-true b 0 parts.1 in cc

-- what is felt of another is nothing
unfelt : (k m : ℕ) (x : ℕ × ℕ) → k ≢ m → (not (k == m) && not (is_nothing x)) ≡ false → x ≡ (0, 0)
unfelt k m x apart h =
    let e : (k == m) ≡ false = grind (arith, nat_tests) in
    let rest : not (is_nothing x) ≡ false = rw e at h in
    nothing x (elim (is_nothing x) as (λ b. not b ≡ false → b ≡ true) [ true ↦ λ _. refl | false ↦ λ f. cc ] rest)

silent : (k m : ℕ) (x : ℕ × ℕ) → (k ≢ m → x ≡ (0, 0)) → (not (k == m) && not (is_nothing x)) ≡ false
silent k m x h =
    elim (cases_eq k m) [
      | inl same ↦ let e : (k == m) ≡ true = grind (arith, nat_tests) in rw e refl
      | inr apart ↦ rw (h apart) (and_right (not (k == m)) false refl)
    ]

of_each : (s : Setup) (m : ℕ) → feels s m 0 ≡ false → feels s m 1 ≡ false → feels s m 2 ≡ false → feels s m 3 ≡ false → IsAlone s m
of_each s m a b c d zero inside apart = unfelt 0 m (shares_of s m 0) apart a
of_each s m a b c d (suc zero) inside apart = unfelt 1 m (shares_of s m 1) apart b
of_each s m a b c d (suc (suc zero)) inside apart = unfelt 2 m (shares_of s m 2) apart c
of_each s m a b c d (suc (suc (suc zero))) inside apart = unfelt 3 m (shares_of s m 3) apart d
of_each s m a b c d (suc (suc (suc (suc k)))) inside apart = absurd (omega arith)

pub alone_says : (s : Setup) (m : ℕ) → not (feels_any s m) ≡ true ↔ IsAlone s m
alone_says s m = (
  (λ h.
      let first = none_of (feels s m 0) _ h in
      let second = none_of (feels s m 1) _ first.1 in
      let third = none_of (feels s m 2) _ second.1 in
      of_each s m first.0 second.0 third.0 (not-true (feels s m 3) third.1)),
  (λ h.
      let off : feels_any s m ≡ false = or_from (feels s m 0) _ (silent 0 m (shares_of s m 0) (h 0 (omega arith)))
      (or_from (feels s m 1) _ (silent 1 m (shares_of s m 1) (h 1 (omega arith)))
      (or_from (feels s m 2) _ (silent 2 m (shares_of s m 2) (h 2 (omega arith))) (silent 3 m (shares_of s m 3) (h 3 (omega arith))))) in
      ap not off),
)
