-- The greatest numbers of ranges, one assumption after the other.
use Rattle.std.proofs.Common.{◌≡◌, ℕ, ◌+◌, ◌<◌, ◌≤◌, max, List, length, get_or, drop, refl, add-one, drop-cons}
use Rattle.std.proofs.Math.ListN.{drop_of_length-le}
use Rattle.pin_matrix.specs.declared.assume.Assumption.{Assumption}
use Rattle.pin_matrix.specs.Assumptions.{most_in, raised_x, raised_y}

-- the first that is left comes first
pub x-drop : (most : ℕ) (items : List Assumption) (i : ℕ) (d : Assumption) → i < length items → raised_x most (drop i items) ≡ raised_x (max most (most_in (get_or items i d).x)) (drop (i + 1) items)
unfolding raised_x
x-drop most items i d more = rw (add-one, drop-cons items i d) refl

pub x-past : (most : ℕ) (items : List Assumption) (i : ℕ) → length items ≤ i → raised_x most (drop i items) ≡ most
unfolding raised_x
x-past most items i all = rw (drop_of_length-le items all) refl

pub y-drop : (most : ℕ) (items : List Assumption) (i : ℕ) (d : Assumption) → i < length items → raised_y most (drop i items) ≡ raised_y (max most (most_in (get_or items i d).y)) (drop (i + 1) items)
unfolding raised_y
y-drop most items i d more = rw (add-one, drop-cons items i d) refl

pub y-past : (most : ℕ) (items : List Assumption) (i : ℕ) → length items ≤ i → raised_y most (drop i items) ≡ most
unfolding raised_y
y-past most items i all = rw (drop_of_length-le items all) refl
