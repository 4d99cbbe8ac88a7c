-- A context and its number.
use Rattle.std.proofs.Common.{◌≡◌, ℕ, ◌+◌, ◌*◌, ◌/◌, ◌%◌, ◌<◌, ◌≤◌, ◌==◌, Bool, true, false, cond, nat_lt, ◌&&◌, Option, Some, None, refl, arith}
use Rattle.std.proofs.Math.Nat.{div-lt_iff_lt-mul, div-add-mod}
use Rattle.std.proofs.lemmas.Bool.{and_parts}
use Rattle.std.proofs.lemmas.Bool.Decides.{nat_tests}
use Rattle.std.proofs.lemmas.Nat.{div-mul-add, mod-mul-add, mul-add-lt}
use Rattle.pin_matrix.specs.declared.assume.Follow.{Follow}
use Rattle.span_step.specs.Contexts.{Context, is_placed, is_small}
use Rattle.span_bounds.specs.Numbers.{contexts, known_number, level_number, number_of, known_at, context_at}

known_number-known_at : (b n : ℕ) → known_number b (known_at b n) ≡ n
known_number-known_at b n = on (n == b + 1) refl where
  on : (z : Bool) → (n == b + 1) ≡ z → known_number b (cond z None (Some n)) ≡ n
  on true e = grind (arith, nat_tests)
  on false e = refl

level_number-level : (r : ℕ) → r < 2 → level_number (r == 1) ≡ r
level_number-level r l = on (r == 1) refl where
  on : (z : Bool) → (r == 1) ≡ z → level_number z ≡ r
  on true e = grind (arith, nat_tests)
  on false e = grind (arith, nat_tests)

-- a number by its quotient and its rest
whole : (n w : ℕ) → n / w * w + n % w ≡ n
whole n w = let e : w * (n / w) + n % w ≡ n = div-add-mod n w in omega arith

low_digits : (i : ℕ) → i / 4 * 4 + 2 * (i / 2 % 2) + i % 2 ≡ i
low_digits i = omega arith

pub number_of-context_at : (d : Follow) (i : ℕ) → number_of d (context_at d i) ≡ i
unfolding context_at
number_of-context_at d i =
    rw (known_number-known_at d.x (i / 4 / (d.y + 2) % (d.x + 2)), known_number-known_at d.y (i / 4 % (d.y + 2)), level_number-level (i / 2 % 2) (omega arith), level_number-level (i % 2) (omega arith), whole (i / 4 / (d.y + 2)) (d.x + 2), whole (i / 4) (d.y + 2))
    (low_digits i)

small_known : (b n : ℕ) → n < b + 2 → is_small b (known_at b n) ≡ true
small_known b n l = on (n == b + 1) refl where
  on : (z : Bool) → (n == b + 1) ≡ z → is_small b (cond z None (Some n)) ≡ true
  on true e = refl
  on false e = grind (arith, nat_tests)

below_parts : (i n : ℕ) → i < 4 * n → i / 4 < n
below_parts i n l = omega arith

divided : (n w h : ℕ) → 0 < w → n < w * h → n / w < h
divided n w h p l = (div-lt_iff_lt-mul {k = w} {x = n} {y = h} p).1 (let e : h * w ≡ w * h = omega arith in omega arith)

rest_below : (n b : ℕ) → n % (b + 2) < b + 2
rest_below n b = omega arith

pub address_fits : (d : Follow) (i : ℕ) → i < contexts d → i / 4 / (d.y + 2) / (d.x + 2) < 32
unfolding contexts
address_fits d i l = divided (i / 4 / (d.y + 2)) (d.x + 2) 32 (omega arith) (divided (i / 4) (d.y + 2) ((d.x + 2) * 32) (omega arith) (below_parts i ((d.y + 2) * ((d.x + 2) * 32)) l))

pub address_below : (d : Follow) (i : ℕ) → i < contexts d → nat_lt (i / 4 / (d.y + 2) / (d.x + 2)) 32 ≡ true
address_below d i l = decide _ (address_fits d i l) where
  decide : (a : ℕ) → a < 32 → nat_lt a 32 ≡ true
  decide a h = grind (arith, nat_tests)

pub is_placed-context_at : (d : Follow) (i : ℕ) → i < contexts d → is_placed d (context_at d i).address (context_at d i).x (context_at d i).y ≡ true
unfolding context_at
is_placed-context_at d i l = rw (address_below d i l, small_known d.x (i / 4 / (d.y + 2) % (d.x + 2)) (rest_below (i / 4 / (d.y + 2)) d.x), small_known d.y (i / 4 % (d.y + 2)) (rest_below (i / 4) d.y)) refl

four : (r f t : ℕ) → f < 2 → t < 2 → (r * 4 + 2 * f + t) / 4 ≡ r
four r f t h k = omega arith

from_of : (r f t : ℕ) → f < 2 → t < 2 → (r * 4 + 2 * f + t) / 2 % 2 ≡ f
from_of r f t h k = omega arith

to_of : (r f t : ℕ) → f < 2 → t < 2 → (r * 4 + 2 * f + t) % 2 ≡ t
to_of r f t h k = omega arith

pub known_below : (b : ℕ) (o : Option ℕ) → is_small b o ≡ true → known_number b o < b + 2
known_below b None h = omega arith
known_below b (Some n) h = let l : n ≤ b = grind (arith, nat_tests) in omega arith

known_at-known_number : (b : ℕ) (o : Option ℕ) → is_small b o ≡ true → known_at b (known_number b o) ≡ o
known_at-known_number b None h = let e : (b + 1 == b + 1) ≡ true = grind (arith, nat_tests) in rw e refl
known_at-known_number b (Some n) h = let d : (n == b + 1) ≡ false = grind (arith, nat_tests) in rw d refl

pub level_below : (b : Bool) → level_number b < 2
level_below true = omega arith
level_below false = omega arith

level_of : (b : Bool) → (level_number b == 1) ≡ b
level_of true = refl
level_of false = refl

pub and_three : (a b c : Bool) → (a && (b && c)) ≡ true → (a ≡ true) × ((b ≡ true) × (c ≡ true))
and_three a b c h = let p = and_parts a (b && c) h in (p.0, and_parts b c p.1)

-- a context in range is the one at its number
pub context_at-number_of : (d : Follow) (k : Context) → is_placed d k.address k.x k.y ≡ true → context_at d (number_of d k) ≡ k
unfolding context_at
context_at-number_of d k h =
    let s = and_three (nat_lt k.address 32) (is_small d.x k.x) (is_small d.y k.y) h in
    let x = known_below d.x k.x s.1.0 in
    let y = known_below d.y k.y s.1.1 in
    let f = level_below k.from in
    let t = level_below k.to in
    rw (
      four ((k.address * (d.x + 2) + known_number d.x k.x) * (d.y + 2) + known_number d.y k.y) (level_number k.from) (level_number k.to) f t,
      div-mul-add (k.address * (d.x + 2) + known_number d.x k.x) (d.y + 2) (known_number d.y k.y) y,
      mod-mul-add (k.address * (d.x + 2) + known_number d.x k.x) (d.y + 2) (known_number d.y k.y) y,
      div-mul-add k.address (d.x + 2) (known_number d.x k.x) x,
      mod-mul-add k.address (d.x + 2) (known_number d.x k.x) x,
      from_of ((k.address * (d.x + 2) + known_number d.x k.x) * (d.y + 2) + known_number d.y k.y) (level_number k.from) (level_number k.to) f t,
      to_of ((k.address * (d.x + 2) + known_number d.x k.x) * (d.y + 2) + known_number d.y k.y) (level_number k.from) (level_number k.to) f t,
      known_at-known_number d.x k.x s.1.0,
      known_at-known_number d.y k.y s.1.1,
      level_of k.from,
      level_of k.to,
    ) refl

last_digits : (r f t n : ℕ) → r < n → f < 2 → t < 2 → r * 4 + 2 * f + t < 4 * n
last_digits r f t n l h k = omega arith

-- its number is below how many there are
pub number_below : (d : Follow) (k : Context) → is_placed d k.address k.x k.y ≡ true → number_of d k < contexts d
unfolding contexts
number_below d k p =
    let s = and_three (nat_lt k.address 32) (is_small d.x k.x) (is_small d.y k.y) p in
    let address : k.address < 32 = (let q = s.0 in grind (arith, nat_tests)) in
    last_digits _ (level_number k.from) (level_number k.to) ((d.y + 2) * ((d.x + 2) * 32))
    (mul-add-lt (k.address * (d.x + 2) + known_number d.x k.x) (d.y + 2) (known_number d.y k.y) ((d.x + 2) * 32) (mul-add-lt k.address (d.x + 2) (known_number d.x k.x) 32 address (known_below d.x k.x s.1.0)) (known_below d.y k.y s.1.1))
    (level_below k.from) (level_below k.to)

some : (x y : ℕ) → 0 < x → 0 < y → 0 < 4 * (y * (x * 32))
some x y h k = let l : 0 * y + 0 < y * (x * 32) = mul-add-lt 0 y 0 (x * 32) (omega arith) k in omega arith

-- there are some
pub contexts_some : (d : Follow) → 0 < contexts d
unfolding contexts
contexts_some d = some (d.x + 2) (d.y + 2) (omega arith) (omega arith)
