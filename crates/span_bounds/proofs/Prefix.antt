-- A list of which the first part is written, and the rest isn't: it is one thing again and again.
use Rattle.std.proofs.Common.{◌≡◌, ℕ, suc, ◌-◌, ◌<◌, ◌≤◌, List, [], ◌∷◌, ◌++◌, length, set, replicate, refl, sym, ap, ◌∙◌, arith}
use Rattle.std.proofs.lemmas.List.{length-append, append_assoc, length-replicate, length-set, length_push, set-append_left}

-- so many of which these are written
abbrev pub written : {A : Type 0} → A → ℕ → List A → List A
written d n xs = xs ++ replicate (n - length xs) d

pub length-written : {A : Type 0} (d : A) (n : ℕ) (xs : List A) → length xs ≤ n → length (written d n xs) ≡ n
length-written d n xs l = omega (arith, length-append xs (replicate (n - length xs) d), length-replicate (n - length xs) d)

-- writing what is there already leaves the list
pub written_more : {A : Type 0} (d : A) (n : ℕ) (xs : List A) → length xs < n → written d n (xs ++ d ∷ []) ≡ written d n xs
written_more d n xs l = append_assoc xs (d ∷ []) _ ∙ ap (λ ys. xs ++ ys) (sym grown) where
  one_less : n - length xs ≡ suc (n - length (xs ++ d ∷ []))
  one_less = omega (arith, length_push xs d)

  grown : replicate (n - length xs) d ≡ d ∷ replicate (n - length (xs ++ d ∷ [])) d
  grown = rw one_less refl

-- a place is written anew
pub written-set : {A : Type 0} (d : A) (n : ℕ) (xs : List A) (i : ℕ) (e : A) → i < length xs → written d n (set xs i e) ≡ set (written d n xs) i e
written-set d n xs i e l = rw (length-set xs i e) (sym (set-append_left xs _ i e l))

-- nothing is written yet
pub written_none : {A : Type 0} (d : A) (n : ℕ) (xs : List A) → xs ≡ [] → written d n xs ≡ replicate n d
written_none d n xs e = rw e (ap (λ k. replicate k d) (all n)) where
  all : (n : ℕ) → n - 0 ≡ n
  all n = omega arith

-- the same for what a push leaves
pub written_pushed : {A : Type 0} (d : A) (n : ℕ) (xs ys : List A) → ys ≡ xs ++ d ∷ [] → length xs < n → written d n ys ≡ written d n xs
written_pushed d n xs ys e l = rw e (written_more d n xs l)

pub length_pushed : {A : Type 0} (d : A) (n : ℕ) (xs ys : List A) → ys ≡ xs ++ d ∷ [] → length xs < n → length ys ≤ n
length_pushed d n xs ys e l = rw (e, length_push xs d) (omega arith)
