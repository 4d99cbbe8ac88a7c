-- The words that are taken in ticks in a row.
use Rattle.std.proofs.Common.{◌≡◌, ℕ, zero, suc, ◌+◌, ◌<◌, Option, None, option_to_list, [], ◌++◌, refl, sym, ap, ◌∙◌, arith, append-nil, append_assoc}
use Rattle.program_runs.specs.Steps.{takes}

pub takes-split : (taken : ℕ → Option ℕ) (t j n : ℕ) → takes taken t (j + n) ≡ takes taken t j ++ takes taken (t + j) n
takes-split taken t zero n = ap (takes taken t) (let e : 0 + n ≡ n = omega arith in e) ∙ ap (λ k. takes taken k n) (let e : t ≡ t + 0 = omega arith in e)
takes-split taken t (suc j) n =
    ap (takes taken t) (let e : suc j + n ≡ suc (j + n) = omega arith in e)
    ∙ ap (λ xs. option_to_list (taken t) ++ xs) (takes-split taken (t + 1) j n)
    ∙ sym (append_assoc (option_to_list (taken t)) (takes taken (t + 1) j) (takes taken (t + 1 + j) n))
    ∙ ap (λ k. (option_to_list (taken t) ++ takes taken (t + 1) j) ++ takes taken k n) (let e : t + 1 + j ≡ t + suc j = omega arith in e)

pub takes-none : (taken : ℕ → Option ℕ) (t n : ℕ) → ((j : ℕ) → j < n → taken (t + j) ≡ None) → takes taken t n ≡ []
takes-none taken t zero h = refl
takes-none taken t (suc n) h =
    ap (λ o. option_to_list o ++ takes taken (t + 1) n) (ap taken (let e : t ≡ t + 0 = omega arith in e) ∙ h 0 (omega arith))
    ∙ takes-none taken (t + 1) n (λ j l. ap taken (let e : t + 1 + j ≡ t + (j + 1) = omega arith in e) ∙ h (j + 1) (omega (arith, l)))

pub takes-more : (taken : ℕ → Option ℕ) (n : ℕ) → takes taken 0 (suc n) ≡ takes taken 0 n ++ option_to_list (taken n)
takes-more taken n =
    ap (takes taken 0) (let e : suc n ≡ n + 1 = omega arith in e) ∙ takes-split taken 0 n 1
    ∙ ap (λ k. takes taken 0 n ++ (option_to_list (taken k) ++ [])) (let e : 0 + n ≡ n = omega arith in e)
    ∙ ap (λ ws. takes taken 0 n ++ ws) (append-nil (option_to_list (taken n)))
