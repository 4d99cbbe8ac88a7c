-- What can come next after the end of a course is each X with each Y, by X and then by Y.
use Rattle.std.proofs.Common.{◌≡◌, ℕ, zero, suc, ◌+◌, ◌*◌, ◌/◌, ◌%◌, ◌<◌, List, [], ◌∷◌, map, length, get_or, sym, ap, ◌∙◌, arith}
use Rattle.std.specs.List.{flat_map}
use Rattle.std.proofs.lemmas.List.{length-append, length-map, get_or_append_left, get_or-append-add, get_or-map}
use Rattle.std.proofs.lemmas.Nat.{div-add-mod', div_below, mod_below}

module _ {A B C : Type 0} (f : A → B → C) where
  -- the pairs of some of the first with some of the second
  abbrev pub pairs : List A → List B → List C
  pairs xs ys = flat_map (λ x. map (λ y. f x y) ys) xs

  pub length-pairs : (xs : List A) (ys : List B) → length (pairs xs ys) ≡ length xs * length ys
  length-pairs [] ys = omega arith
  length-pairs (x ∷ xs) ys =
      let front : length (map (λ y. f x y) ys) ≡ length ys = length-map ys (λ y. f x y) in
      omega (arith, length-append (map (λ y. f x y) ys) (pairs xs ys), front, length-pairs xs ys)

  -- the pair of two places
  pub at-pairs : (xs : List A) (ys : List B) (i j : ℕ) (x : A) (y : B) (d : C) → i < length xs → j < length ys → get_or (pairs xs ys) (i * length ys + j) d ≡ f (get_or xs i x) (get_or ys j y)
  at-pairs [] ys i j x y d p q = absurd (omega (arith, p))
  at-pairs (u ∷ xs) ys zero j x y d p q =
      let front : length (map (λ z. f u z) ys) ≡ length ys = length-map ys (λ z. f u z) in
      let place : zero * length ys + j ≡ j = omega arith in
      ap (λ k. get_or (pairs (u ∷ xs) ys) k d) place
      ∙ get_or_append_left (map (λ z. f u z) ys) (pairs xs ys) d j (omega (arith, front, q))
      ∙ get_or-map (λ z. f u z) ys j y d q
  at-pairs (u ∷ xs) ys (suc i) j x y d p q =
      let front : length (map (λ z. f u z) ys) ≡ length ys = length-map ys (λ z. f u z) in
      let place : suc i * length ys + j ≡ length (map (λ z. f u z) ys) + (i * length ys + j) = omega (arith, front) in
      ap (λ k. get_or (pairs (u ∷ xs) ys) k d) place
      ∙ get_or-append-add (map (λ z. f u z) ys) (pairs xs ys) (i * length ys + j) d
      ∙ at-pairs xs ys i j x y d (omega (arith, p)) q

  -- the pair of a turn
  pub turn-pairs : (xs : List A) (ys : List B) (n : ℕ) (x : A) (y : B) (d : C) → n < length xs * length ys → get_or (pairs xs ys) n d ≡ f (get_or xs (n / length ys) x) (get_or ys (n % length ys) y)
  turn-pairs xs [] n x y d p = absurd (omega (arith, p))
  turn-pairs xs (v ∷ ys) n x y d p =
      let w : ℕ = length (v ∷ ys) in
      let some : zero < length (v ∷ ys) = omega arith in
      ap (λ k. get_or (pairs xs (v ∷ ys)) k d) (sym (div-add-mod' n (length (v ∷ ys))))
      ∙ at-pairs xs (v ∷ ys) (n / length (v ∷ ys)) (n % length (v ∷ ys)) x y d (div_below n (length (v ∷ ys)) (length xs) some p) (mod_below n (length (v ∷ ys)) some)
