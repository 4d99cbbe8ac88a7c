-- Worked rows: the contexts in their order, and how many there are, by how far X and Y are followed.
use Rattle.std.proofs.Common.{◌≡◌, ℕ, Bool, true, false, Option, Some, None, refl}
use Rattle.pin_matrix.specs.declared.assume.Follow.{Follow}
use Rattle.span_step.specs.Contexts.{Context}
use Rattle.span_bounds.specs.Numbers.{contexts, context_at, number_of}

abbrev up_to : ℕ → ℕ → Follow
up_to x y = record { x = x; y = y }

abbrev known : ℕ → Option ℕ → Option ℕ → Bool → Bool → Context
known address x y from to = record { address = address; x = x; y = y; from = from; to = to }

-- 32 addresses, 33 of X and of Y, four levels; one register alone, which has 65,536 beside two
as_ever : contexts (up_to 31 31) ≡ 139392
unfolding contexts
as_ever = refl

the_widest_alone : contexts (up_to 65534 0) ≡ 16777216
unfolding contexts
the_widest_alone = refl

-- a stepper's: 10,001 of X, 13 of Y
a_stepper : contexts (up_to 9999 11) ≡ 16641664
unfolding contexts
a_stepper = refl

-- the first and the last
the_first : number_of (up_to 9999 11) (known 0 (Some 0) (Some 0) false false) ≡ 0
the_first = refl

the_last : number_of (up_to 9999 11) (known 31 None None true true) ≡ 16641663
the_last = refl

-- from-level before to-level, then Y, of which any comes after the last that is followed, then X
to_level : number_of (up_to 9999 11) (known 0 (Some 0) (Some 0) false true) ≡ 1
to_level = refl

from_level : number_of (up_to 9999 11) (known 0 (Some 0) (Some 0) true false) ≡ 2
from_level = refl

last_y : number_of (up_to 9999 11) (known 0 (Some 0) (Some 11) false false) ≡ 44
last_y = refl

any_y : number_of (up_to 9999 11) (known 0 (Some 0) None false false) ≡ 48
any_y = refl

next_x : number_of (up_to 9999 11) (known 0 (Some 1) (Some 0) false false) ≡ 52
next_x = refl

last_x : number_of (up_to 9999 11) (known 0 (Some 9999) (Some 0) false false) ≡ 519948
last_x = refl

any_x : number_of (up_to 9999 11) (known 0 None (Some 0) false false) ≡ 520000
any_x = refl

next_address : number_of (up_to 9999 11) (known 1 (Some 0) (Some 0) false false) ≡ 520052
next_address = refl

-- and back
any_y_back : context_at (up_to 9999 11) 48 ≡ known 0 (Some 0) None false false
unfolding context_at
any_y_back = refl

last_x_back : context_at (up_to 9999 11) 519948 ≡ known 0 (Some 9999) (Some 0) false false
unfolding context_at
last_x_back = refl
