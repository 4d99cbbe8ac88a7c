-- How many clocks are worked out singly.
use Rattle.std.proofs.Common.{◌≡◌, ℕ, zero, suc, ◌+◌, ◌-◌, ◌<◌, ◌≤◌, Bool, true, false, cond, ◌||◌, ◌==◌, refl, ap, ◌∙◌, sym, subst, arith, add-zero, add-suc, add-one}
use Rattle.std.proofs.lemmas.Bool.Decides.{nat_tests}
use Rattle.block_core.specs.Stirring.{worked}

-- one more clock
worked-more : (test : ℕ → Bool) (n : ℕ) → worked test (suc n) ≡ worked test n + cond ((n == 0) || test n) 1 0
unfolding worked
worked-more test n = refl

first_or_passes : (test : ℕ → Bool) (n : ℕ) → (0 < n → test n ≡ true) → ((n == 0) || test n) ≡ true
first_or_passes test zero passes = refl
first_or_passes test (suc n) passes = rw (passes (omega arith)) (grind (arith, nat_tests))

later_and_fails : (test : ℕ → Bool) (n : ℕ) → 0 < n → test n ≡ false → ((n == 0) || test n) ≡ false
later_and_fails test n some fails = rw fails (grind (arith, nat_tests))

-- none of these passes
worked-same : (test : ℕ → Bool) (c n : ℕ) → 0 < c → ((k : ℕ) → c ≤ k → k < c + n → test k ≡ false) → worked test (c + n) ≡ worked test c
worked-same test c zero some fails = ap (worked test) (add-zero c)
worked-same test c (suc n) some fails =
    let before = worked-same test c n some (λ k from below. fails k from (omega arith)) in
    let none = later_and_fails test (c + n) (omega arith) (fails (c + n) (omega arith) (omega arith)) in
    ap (worked test) (add-suc c n) ∙ worked-more test (c + n)
    ∙ ap (λ (b : Bool). worked test (c + n) + cond b 1 0) none
    ∙ add-zero (worked test (c + n)) ∙ before

-- the clock passes or is the first, and then none does up to a later one
pub worked-later : (test : ℕ → Bool) (clock later : ℕ) → clock + 1 ≤ later → (0 < clock → test clock ≡ true)
    → ((k : ℕ) → clock + 1 ≤ k → k < later → test k ≡ false) → worked test later ≡ worked test clock + 1
worked-later test clock later le passes fails =
    let n = later - (clock + 1) in
    let whole : clock + 1 + n ≡ later = omega arith in
    let some : 0 < clock + 1 = omega arith in
    sym (ap (worked test) whole)
    ∙ worked-same test (clock + 1) n some (λ k from below. fails k from (omega arith))
    ∙ ap (worked test) (add-one clock) ∙ worked-more test clock
    ∙ ap (λ (b : Bool). worked test clock + cond b 1 0) (first_or_passes test clock passes)

grows : (test : ℕ → Bool) (c n : ℕ) → worked test c ≤ worked test (c + n)
grows test c zero = subst (λ (k : ℕ). worked test c ≤ worked test k) (sym (add-zero c)) (let e : worked test c ≤ worked test c = omega arith in e)
grows test c (suc n) =
    let before = grows test c n in
    let e : worked test (c + suc n) ≡ worked test (c + n) + cond (((c + n) == 0) || test (c + n)) 1 0 = ap (worked test) (add-suc c n) ∙ worked-more test (c + n) in
    omega arith

pub worked-grows : (test : ℕ → Bool) (c n : ℕ) → c ≤ n → worked test c ≤ worked test n
worked-grows test c n le =
    let e : c + (n - c) ≡ n = omega arith in
    subst (λ (k : ℕ). worked test c ≤ worked test k) e (grows test c (n - c))

at_most_one : (b : Bool) → cond b 1 0 ≤ 1
at_most_one true = omega arith
at_most_one false = omega arith

pub worked-none : (test : ℕ → Bool) → worked test 0 ≡ 0
unfolding worked
worked-none test = refl

-- at most all
pub worked-all : (test : ℕ → Bool) (n : ℕ) → worked test n ≤ n
worked-all test zero = let e = worked-none test in omega arith
worked-all test (suc n) =
    let before = worked-all test n in
    let one = at_most_one ((n == 0) || test n) in
    let e = worked-more test n in
    omega arith

-- at most one more than those that pass
pub worked-passing : (test : ℕ → Bool) (count : ℕ → ℕ) → ((n : ℕ) → count (suc n) ≡ count n + cond (test n) 1 0)
    → (n : ℕ) → worked test n ≤ count n + 1
worked-passing test count more zero = let e = worked-none test in omega arith
worked-passing test count more (suc zero) = let all = worked-all test 1 in omega arith
worked-passing test count more (suc (suc n)) =
    let before = worked-passing test count more (suc n) in
    let later : ((suc n == 0) || test (suc n)) ≡ test (suc n) = grind (arith, nat_tests) in
    let e : worked test (suc (suc n)) ≡ worked test (suc n) + cond (test (suc n)) 1 0 = worked-more test (suc n) ∙ ap (λ (b : Bool). worked test (suc n) + cond b 1 0) later in
    let passing = more (suc n) in
    omega arith
