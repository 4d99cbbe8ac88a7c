-- Worked rows: how far X and Y are followed, and which assumptions a span may have, worked out by hand.
use Rattle.std.proofs.Common.{◌≡◌, ℕ, true, false, Some, None, [], ◌∷◌, refl}
use Rattle.pin_matrix.specs.declared.assume.Assumption.{Assumption}
use Rattle.pin_matrix.specs.declared.assume.Follow.{Follow}
use Rattle.pin_matrix.specs.declared.assume.Range.{Range}
use Rattle.pin_matrix.specs.Assumptions.{follow_of, are_assumptions, raised_x, raised_y}

abbrev to : ℕ → ℕ → Range
to lo hi = record { lo = lo; hi = hi }

abbrev of_x : ℕ → ℕ → Assumption
of_x lo hi = record { address = 1; x = Some (to lo hi); y = None }

abbrev of_y : ℕ → ℕ → Assumption
of_y lo hi = record { address = 2; x = None; y = Some (to lo hi) }

abbrev up_to : ℕ → ℕ → Follow
up_to x y = record { x = x; y = y }

-- without ranges up to 31, and with small ones no less
nothing_assumed : follow_of [] ≡ up_to 31 31
unfolding follow_of raised_x raised_y
nothing_assumed = refl

a_small_range : follow_of (of_x 2 30 ∷ []) ≡ up_to 31 31
unfolding follow_of raised_x raised_y
a_small_range = refl

-- the greatest number of the ranges, each register for itself
a_byte : follow_of (of_y 0 255 ∷ []) ≡ up_to 31 255
unfolding follow_of raised_x raised_y
a_byte = refl

two_bytes : follow_of (of_y 0 255 ∷ of_x 0 7 ∷ of_x 3 255 ∷ []) ≡ up_to 255 255
unfolding follow_of raised_x raised_y
two_bytes = refl

-- beside 9,999 there is room for 13 of Y (131,072 / 10,001), which are 0 to 11 and any; beside 3,969 for 33, beside 3,970 for 32
a_stepper : follow_of (of_x 100 9999 ∷ []) ≡ up_to 9999 11
unfolding follow_of raised_x raised_y
a_stepper = refl

room_for_all : follow_of (of_x 0 3969 ∷ []) ≡ up_to 3969 31
unfolding follow_of raised_x raised_y
room_for_all = refl

room_for_less : follow_of (of_x 0 3970 ∷ []) ≡ up_to 3970 30
unfolding follow_of raised_x raised_y
room_for_less = refl

-- one register alone goes up to 65,534: 65,536 * 2 pairs
the_widest_alone : follow_of (of_y 0 65534 ∷ []) ≡ up_to 0 65534
unfolding follow_of raised_x raised_y
the_widest_alone = refl

widest_alone_fits : are_assumptions (of_y 0 65534 ∷ []) ≡ true
unfolding raised_x raised_y
widest_alone_fits = refl

wider_alone : are_assumptions (of_y 0 65535 ∷ []) ≡ false
unfolding raised_x raised_y
wider_alone = refl

-- 362 * 362 = 131,044 pairs fit, 363 * 362 don't
the_widest_square : are_assumptions (of_x 0 360 ∷ of_y 0 360 ∷ []) ≡ true
unfolding raised_x raised_y
the_widest_square = refl

a_wider_square : are_assumptions (of_x 0 361 ∷ of_y 0 360 ∷ []) ≡ false
unfolding raised_x raised_y
a_wider_square = refl

-- a range of one number, one without a number, and an address that isn't one
one_number : are_assumptions (of_x 5 5 ∷ []) ≡ true
unfolding raised_x raised_y
one_number = refl

no_number : are_assumptions (of_x 6 5 ∷ []) ≡ false
unfolding raised_x raised_y
no_number = refl

no_address : are_assumptions (record { address = 32; x = None; y = Some (to 0 1) } ∷ []) ≡ false
unfolding raised_x raised_y
no_address = refl
