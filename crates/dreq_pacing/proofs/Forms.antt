-- The fields after the first and the second.
use Rattle.std.proofs.Common.{◌≡◌, ℕ, List, [], ◌∷◌, drop, refl}
use Rattle.std.specs.Prelude.{slice_get}

pub second_field : (fields : List (List ℕ)) → slice_get (drop 1 fields) 0 ≡ slice_get fields 1
second_field [] = refl
second_field (f ∷ fs) = refl

pub after_two : (fields : List (List ℕ)) → drop 1 (drop 1 fields) ≡ drop 2 fields
after_two [] = refl
after_two (f ∷ fs) = refl
