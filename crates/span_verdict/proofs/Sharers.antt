-- What looking through the machines in order finds.
use Rattle.std.proofs.Common.{◌≡◌, ℕ, zero, suc, ◌<◌, ◌≤◌, ◌⊎◌, Bool, true, false, not, ◌&&◌, Option, Some, None, List, [], ◌∷◌, length, MatchOption, option_map, refl, subst, sym, inl, inr, arith}
use Rattle.std.proofs.lemmas.Bool.{cases_lt}
use Rattle.std.proofs.lemmas.List.{get_or_past}
use Rattle.std.specs.List.{find}
use Rattle.pin_matrix.specs.declared.machine.MachineSetup.{MachineSetup}
use Rattle.pin_matrix.specs.declared.span.Span.{Span}
use Rattle.span_verdict.specs.Sharing.{shares, NoneShares, IsFirstSharer}

none_past : (machines : List (Option MachineSetup)) (sp : Span) (m : ℕ) → length machines ≤ m → shares machines sp m ≡ false
unfolding shares
none_past machines sp m l = rw (get_or_past machines m None l) (no (not _)) where
  no : (b : Bool) → (b && false) ≡ false
  no true = refl
  no false = refl

below_four : (P : ℕ → Type 0) → P 0 → P 1 → P 2 → P 3 → (m : ℕ) → m < 4 → P m
below_four P a b c d zero l = a
below_four P a b c d (suc zero) l = b
below_four P a b c d (suc (suc zero)) l = c
below_four P a b c d (suc (suc (suc zero))) l = d
below_four P a b c d (suc (suc (suc (suc m)))) l = absurd (omega arith)

module _ (machines : List (Option MachineSetup)) (sp : Span) (four : length machines ≡ 4) where
  abbrev test : ℕ → Bool
  test = shares machines sp

  none : test 0 ≡ false → test 1 ≡ false → test 2 ≡ false → test 3 ≡ false → NoneShares machines sp
  none a b c d m = on (cases_lt m 4) where
    on : (m < 4) ⊎ (4 ≤ m) → test m ≡ false
    on (inl l) = below_four (λ n. test n ≡ false) a b c d m l
    on (inr l) = none_past machines sp m (rw four l)

  abbrev pub Found : Option ℕ → Type 0
  Found o = MatchOption o (NoneShares machines sp) (λ m. IsFirstSharer machines sp m)

  pub found : Found (find test (0 ∷ 1 ∷ 2 ∷ 3 ∷ []))
  found = on0 (test 0) refl where
    on3 : (z : Bool) → test 3 ≡ z → test 0 ≡ false → test 1 ≡ false → test 2 ≡ false → Found (find test (3 ∷ []))
    on3 true d a b c = rw d (record { sharing = d; first = λ n l. below_four (λ i. i < 3 → test i ≡ false) (λ _. a) (λ _. b) (λ _. c) (λ k. absurd (omega arith)) n (omega arith) l })
    on3 false d a b c = rw d (none a b c d)

    on2 : (z : Bool) → test 2 ≡ z → test 0 ≡ false → test 1 ≡ false → Found (find test (2 ∷ 3 ∷ []))
    on2 true c a b = rw c (record { sharing = c; first = λ n l. below_four (λ i. i < 2 → test i ≡ false) (λ _. a) (λ _. b) (λ k. absurd (omega arith)) (λ k. absurd (omega arith)) n (omega arith) l })
    on2 false c a b = rw c (on3 (test 3) refl a b c)

    on1 : (z : Bool) → test 1 ≡ z → test 0 ≡ false → Found (find test (1 ∷ 2 ∷ 3 ∷ []))
    on1 true b a = rw b (record { sharing = b; first = λ n l. below_four (λ i. i < 1 → test i ≡ false) (λ _. a) (λ k. absurd (omega arith)) (λ k. absurd (omega arith)) (λ k. absurd (omega arith)) n (omega arith) l })
    on1 false b a = rw b (on2 (test 2) refl a b)

    on0 : (z : Bool) → test 0 ≡ z → Found (find test (0 ∷ 1 ∷ 2 ∷ 3 ∷ []))
    on0 true a = rw a (record { sharing = a; first = λ n l. absurd (omega arith) })
    on0 false a = rw a (on1 (test 1) refl a)

  -- what a search finds
  pub searched : (o : Option ℕ) → option_map (λ x. x) o ≡ find test (0 ∷ 1 ∷ 2 ∷ 3 ∷ []) → Found o
  searched None e = subst Found (sym e) found
  searched (Some m) e = subst Found (sym e) found
