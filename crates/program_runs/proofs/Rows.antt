-- Levels in a row.
use Rattle.std.proofs.Common.{◌≡◌, ℕ, zero, suc, ◌+◌, ◌<◌, Bool, false, [], ◌∷◌, ◌++◌, length, refl, ap, ◌∙◌, arith, replicate, get_or}
use Rattle.program_runs.specs.Levels.{row}

pub length-row : (at : ℕ → Bool) (c n : ℕ) → length (row at c n) ≡ n
length-row at c zero = refl
length-row at c (suc n) = ap suc (length-row at (c + 1) n)

pub get-row : (at : ℕ → Bool) (c n k : ℕ) → k < n → get_or (row at c n) k false ≡ at (c + k)
get-row at c zero k h = absurd (omega (arith, h))
get-row at c (suc n) zero h = ap at (let e : c ≡ c + 0 = omega arith in e)
get-row at c (suc n) (suc k) h = get-row at (c + 1) n k (omega (arith, h)) ∙ ap at (let e : c + 1 + k ≡ c + suc k = omega arith in e)

pub row-split : (at : ℕ → Bool) (c j n : ℕ) → row at c (j + n) ≡ row at c j ++ row at (c + j) n
row-split at c zero n = ap (λ k. row at c k) (let e : 0 + n ≡ n = omega arith in e) ∙ ap (λ k. row at k n) (let e : c ≡ c + 0 = omega arith in e)
row-split at c (suc j) n =
    ap (λ k. row at c k) (let e : suc j + n ≡ suc (j + n) = omega arith in e)
    ∙ ap (λ xs. at c ∷ xs) (row-split at (c + 1) j n ∙ ap (λ k. row at (c + 1) j ++ row at k n) (let e : c + 1 + j ≡ c + suc j = omega arith in e))

-- the same level all the time
pub row-same : (at : ℕ → Bool) (c n : ℕ) (v : Bool) → ((k : ℕ) → k < n → at (c + k) ≡ v) → row at c n ≡ replicate n v
row-same at c zero v h = refl
row-same at c (suc n) v h =
    ap (λ x. x ∷ row at (c + 1) n) (ap at (let e : c ≡ c + 0 = omega arith in e) ∙ h 0 (omega arith))
    ∙ ap (λ xs. v ∷ xs) (row-same at (c + 1) n v (λ k l. ap at (let e : c + 1 + k ≡ c + (k + 1) = omega arith in e) ∙ h (k + 1) (omega (arith, l))))

-- rows that are the same level by level
pub row-alike : (at up : ℕ → Bool) (c n : ℕ) → ((k : ℕ) → at k ≡ up k) → row at c n ≡ row up c n
row-alike at up c zero h = refl
row-alike at up c (suc n) h = ap (λ x. x ∷ row at (c + 1) n) (h c) ∙ ap (λ xs. up c ∷ xs) (row-alike at up (c + 1) n h)

-- a level at the end of a row
pub row-more : (at : ℕ → Bool) (n : ℕ) → row at 0 (suc n) ≡ row at 0 n ++ at n ∷ []
row-more at n =
    ap (λ k. row at 0 k) (let e : suc n ≡ n + 1 = omega arith in e) ∙ row-split at 0 n 1
    ∙ ap (λ k. row at 0 n ++ at k ∷ []) (let e : 0 + n ≡ n = omega arith in e)
