-- The least and the greatest of distances, and how many there are.
use Rattle.std.proofs.Common.{◌≡◌, ℕ, suc, ◌≤◌, Bool, true, false, cond, List, [], ◌∷◌, ◌++◌, Option, Some, None, length, min, max, refl, arith}
use Rattle.block_core.specs.declared.sample.Sample.{Sample}
use Rattle.span_meter.specs.declared.pins.ShownPins.{ShownPins}
use Rattle.span_meter.specs.Measured.{SpanEdges, clocks_to, greatest_of, is_from, least_with, measured, pins_of, with_distance}

-- the greatest of two rows
pub greatest-append : (xs ys : List ℕ) → greatest_of (xs ++ ys) ≡ max (greatest_of xs) (greatest_of ys)
greatest-append [] ys = omega arith
greatest-append (x ∷ xs) ys = let i = greatest-append xs ys in omega arith

-- the least of two rows
pub least-append : (x : ℕ) (xs : List ℕ) (y : ℕ) (ys : List ℕ) → least_with x (xs ++ y ∷ ys) ≡ min (least_with x xs) (least_with y ys)
least-append x [] y ys = refl
least-append x (z ∷ xs) y ys = let i = least-append z xs y ys in omega arith

one_more : (between : Option ℕ) (ds : List ℕ) (n : ℕ) → length ds ≤ n → length (with_distance between ds) ≤ suc n
one_more None ds n h = omega arith
one_more (Some k) ds n h = omega arith

pub none_more : (f : Bool) → length (cond f (with_distance None []) []) ≤ 0
none_more true = omega arith
none_more false = omega arith

pub some_more : (f : Bool) (between : Option ℕ) (ds : List ℕ) (n : ℕ) → length ds ≤ n → length (cond f (with_distance between ds) ds) ≤ suc n
some_more true between ds n h = one_more between ds n h
some_more false between ds n h = omega arith

-- the last clock ends a pair, but begins none: there are fewer pairs than clocks
pub fewer : (e : SpanEdges) (before : ShownPins) (s : Sample) (rest : List Sample) → length (measured e before (s ∷ rest)) ≤ length rest
unfolding measured clocks_to
fewer e before s [] = none_more (is_from e before (pins_of s))
fewer e before s (r ∷ rest) =
    some_more (is_from e before (pins_of s)) (clocks_to e (pins_of s) (r ∷ rest)) (measured e (pins_of s) (r ∷ rest)) (length rest) (fewer e (pins_of s) r rest)
