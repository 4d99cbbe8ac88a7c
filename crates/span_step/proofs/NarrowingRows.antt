-- Worked rows: what can come next where X or Y is assumed to be in a range, worked out by hand.
use Rattle.std.proofs.Common.{◌≡◌, ℕ, true, false, Option, Some, None, [], ◌∷◌, refl}
use Rattle.pin_matrix.specs.declared.assume.Assumption.{Assumption}
use Rattle.pin_matrix.specs.declared.assume.Range.{Range}
use Rattle.span_step.specs.declared.ages.Ages.TheVariants.{Between}
use Rattle.span_step.specs.declared.narrowing.Narrowing.{Narrowing}
use Rattle.span_step.specs.declared.stepped.Next.{Next}
use Rattle.span_step.specs.Narrowing.{assumed_at, held, is_unmet, kept, meet, narrowed, with_assumptions}

abbrev to : ℕ → ℕ → Option Range
to lo hi = Some (record { lo = lo; hi = hi })

-- any becomes each number of the range, its ends too
each_of_a_range : kept (to 2 4) None ≡ Some 2 ∷ Some 3 ∷ Some 4 ∷ []
each_of_a_range = refl

one_of_a_range : kept (to 7 7) None ≡ Some 7 ∷ []
one_of_a_range = refl

-- what is known stays in the range, at its ends too, and is nothing outside
at_the_least : kept (to 2 4) (Some 2) ≡ Some 2 ∷ []
at_the_least = refl

at_the_greatest : kept (to 2 4) (Some 4) ≡ Some 4 ∷ []
at_the_greatest = refl

below : kept (to 2 4) (Some 1) ≡ []
below = refl

above : kept (to 2 4) (Some 5) ≡ []
above = refl

-- a number above what is followed is outside too, and not any of the range
above_all : kept (to 2 4) (Some 100) ≡ []
above_all = refl

-- without a range a number is known up to where it is followed
as_far_as_followed : held 31 None (Some 31) ≡ Some 31
as_far_as_followed = refl

no_further : held 31 None (Some 32) ≡ None
no_further = refl

still_any : held 31 None None ≡ None
still_any = refl

-- with one it is known whatever it is, so that it may be outside
known_beyond : held 31 (to 2 4) (Some 32) ≡ Some 32
known_beyond = refl

one_alone : kept None (Some 6) ≡ Some 6 ∷ []
one_alone = refl

-- a range that nothing meets
nothing_in_common : kept (meet (to 0 3) (to 4 9)) None ≡ []
nothing_in_common = refl

-- two assumptions at one address are met both, in either order; one at another address says nothing
abbrev at_3 : Assumption
at_3 = record { address = 3; x = to 0 9; y = None }

abbrev also_at_3 : Assumption
also_at_3 = record { address = 3; x = to 5 20; y = to 1 1 }

abbrev at_4 : Assumption
at_4 = record { address = 4; x = to 0 0; y = None }

both_of_3 : assumed_at (at_3 ∷ at_4 ∷ also_at_3 ∷ []) 3 ≡ (to 5 9, to 1 1)
unfolding with_assumptions
both_of_3 = refl

in_the_other_order : assumed_at (also_at_3 ∷ at_4 ∷ at_3 ∷ []) 3 ≡ (to 5 9, to 1 1)
unfolding with_assumptions
in_the_other_order = refl

none_of_5 : assumed_at (at_3 ∷ at_4 ∷ []) 5 ≡ (None, None)
unfolding with_assumptions
none_of_5 = refl

-- the end of a course at address 7, with these in X and Y
abbrev end_with : Option ℕ → Option ℕ → Next
end_with x y = record { context = record { address = 7; x = x; y = y; from = true; to = false }; ages = Between 3 5; passes = true }

abbrev within : Option Range → Option Range → Narrowing
within x y = record { follow = record { x = 31; y = 31 }; x = x; y = y }

-- each pair comes, by X and then by Y; ages and levels stay
each_pair : narrowed (within (to 0 1) (to 8 9)) (end_with None None) ≡ end_with (Some 0) (Some 8) ∷ end_with (Some 0) (Some 9) ∷ end_with (Some 1) (Some 8) ∷ end_with (Some 1) (Some 9) ∷ []
unfolding narrowed
each_pair = refl

-- X alone is narrowed, Y stays
x_alone : narrowed (within (to 0 1) None) (end_with None (Some 6)) ≡ end_with (Some 0) (Some 6) ∷ end_with (Some 1) (Some 6) ∷ []
unfolding narrowed
x_alone = refl

-- where one of them is outside, nothing comes, whatever the other is
y_is_outside : narrowed (within (to 0 1) (to 8 9)) (end_with None (Some 7)) ≡ []
unfolding narrowed
y_is_outside = refl

unmet : is_unmet (within (to 0 1) (to 8 9)) (end_with None (Some 7)) ≡ true
unfolding narrowed
unmet = refl

met : is_unmet (within (to 0 1) (to 8 9)) (end_with None None) ≡ false
unfolding narrowed
met = refl

-- without ranges there is one next
nothing_assumed : narrowed (within None None) (end_with (Some 31) None) ≡ end_with (Some 31) None ∷ []
unfolding narrowed
nothing_assumed = refl
