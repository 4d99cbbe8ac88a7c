-- What side-set and delay are read as from the five bits that they share.
use Rattle.std.proofs.Common.{◌≡◌, ℕ, ◌+◌, ◌-◌, ◌*◌, ◌/◌, ◌%◌, ◌^◌, ◌<◌, ◌≤◌, nat_lt, Bool, true, false, Option, Some, None, refl, arith}
use Rattle.std.proofs.lemmas.Bool.Decides.{nat_tests}
use Rattle.std.proofs.lemmas.Nat.{div-mul-add, mod-mul-add, pow-add}
use Rattle.std.proofs.Math.Nat.{div-eq_of_lt, mod-eq_of_lt}
use Rattle.pio_encode.specs.declared.rule.SideRule.{SideRule}
use Rattle.pio_encode.specs.Ranges.{SideFits, delay_bits}
use Rattle.pio_encode.specs.Word.{side_and_delay, side_of, delay_of}
use Rattle.pio_encode.proofs.Shares.{below_power, side_below, value_below}

-- the value above the delay's bits, under a multiple of both together
value_back :
    (high low k above value delay : ℕ) → above ≡ k * (2 ^ high * 2 ^ low) → value < 2 ^ high → delay < 2 ^ low →
    (above + value * 2 ^ low + delay) / 2 ^ low % 2 ^ high ≡ value
value_back high low k above value delay a v d =
    let e : above + value * 2 ^ low + delay ≡ (k * 2 ^ high + value) * 2 ^ low + delay = omega arith in
    rw (e, div-mul-add (k * 2 ^ high + value) (2 ^ low) delay d, mod-mul-add k (2 ^ high) value v) refl

-- and the delay below it
rest_back :
    (high low k above value delay : ℕ) → above ≡ k * (2 ^ high * 2 ^ low) → delay < 2 ^ low →
    (above + value * 2 ^ low + delay) % 2 ^ low ≡ delay
rest_back high low k above value delay a d =
    let e : above + value * 2 ^ low + delay ≡ (k * 2 ^ high + value) * 2 ^ low + delay = omega arith in
    rw (e, mod-mul-add (k * 2 ^ high + value) (2 ^ low) delay d) refl

is_positive : (n : ℕ) → 1 ≤ n → nat_lt 0 n ≡ true
is_positive n h = grind (arith, nat_tests)

-- under opt: the enable bit is the bit above value and delay
enable_above : (bits : ℕ) → bits + 1 ≤ 5 → 2 ^ 4 ≡ 1 * (2 ^ bits * 2 ^ (5 - (bits + 1)))
enable_above bits h =
    let e : bits + (5 - (bits + 1)) ≡ 4 = omega arith in
    let p : 2 ^ (bits + (5 - (bits + 1))) ≡ 2 ^ bits * 2 ^ (5 - (bits + 1)) = pow-add 2 bits (5 - (bits + 1)) in
    let q : 2 ^ (bits + (5 - (bits + 1))) ≡ 2 ^ 4 = rw e refl in
    omega arith

enable_back :
    (bits value delay : ℕ) → bits + 1 ≤ 5 → value < 2 ^ bits → delay < 2 ^ (5 - (bits + 1)) →
    (2 ^ 4 + value * 2 ^ (5 - (bits + 1)) + delay) / 2 ^ 4 ≡ 1
enable_back bits value delay h v d =
    omega (arith, value_below bits (5 - (bits + 1)) 4 value (omega arith) v)

none_back : (bits delay : ℕ) → delay < 2 ^ (5 - (bits + 1)) → delay / 2 ^ 4 ≡ 0
none_back bits delay d = div-eq_of_lt (below_power (5 - (bits + 1)) 4 delay (omega arith) d)

side_back_opt :
    (rule : SideRule) (side : Option ℕ) (delay : ℕ) → rule.opt ≡ true → rule.bits + 1 ≤ 5 → SideFits rule side →
    delay < 2 ^ (5 - (rule.bits + 1)) → side_of rule (side_and_delay rule side delay) ≡ side
unfolding side_of side_and_delay
side_back_opt rule None delay o h f d = rw (o, none_back rule.bits delay d) refl
side_back_opt rule (Some value) delay o h f d =
    rw (
      o,
      enable_back rule.bits value delay h f.0 d,
      value_back rule.bits (5 - (rule.bits + 1)) 1 (2 ^ 4) value delay (enable_above rule.bits h) f.0 d,
    ) refl

side_back_plain :
    (rule : SideRule) (side : Option ℕ) (delay : ℕ) → rule.opt ≡ false → SideFits rule side →
    delay < 2 ^ (5 - (rule.bits + 0)) → side_of rule (side_and_delay rule side delay) ≡ side
unfolding side_of side_and_delay
side_back_plain rule None delay o f d =
    let none : rule.bits ≡ 0 = rw o at f in
    rw (o, none) refl
side_back_plain rule (Some value) delay o f d =
    let some : 1 ≤ rule.bits + 0 = rw o at f.1 in
    let test : nat_lt 0 rule.bits ≡ true = is_positive rule.bits (omega arith) in
    rw (o, test, value_back rule.bits (5 - (rule.bits + 0)) 0 0 value delay (omega arith) f.0 d) refl

delay_back_opt :
    (rule : SideRule) (side : Option ℕ) (delay : ℕ) → rule.opt ≡ true → rule.bits + 1 ≤ 5 →
    delay < 2 ^ (5 - (rule.bits + 1)) → delay_of rule (side_and_delay rule side delay) ≡ delay
unfolding delay_of side_and_delay
delay_back_opt rule None delay o h d = rw (o, mod-eq_of_lt d) refl
delay_back_opt rule (Some value) delay o h d =
    rw (o, rest_back rule.bits (5 - (rule.bits + 1)) 1 (2 ^ 4) value delay (enable_above rule.bits h) d) refl

delay_back_plain :
    (rule : SideRule) (side : Option ℕ) (delay : ℕ) → rule.opt ≡ false →
    delay < 2 ^ (5 - (rule.bits + 0)) → delay_of rule (side_and_delay rule side delay) ≡ delay
unfolding delay_of side_and_delay
delay_back_plain rule None delay o d = rw (o, mod-eq_of_lt d) refl
delay_back_plain rule (Some value) delay o d =
    rw (o, rest_back rule.bits (5 - (rule.bits + 0)) 0 0 value delay (omega arith) d) refl

-- the side-set value is read back
pub side_back :
    (rule : SideRule) (opt : Bool) (side : Option ℕ) (delay : ℕ) → rule.opt ≡ opt → SideFits rule side →
    delay < 2 ^ delay_bits rule → side_of rule (side_and_delay rule side delay) ≡ side
side_back rule true side delay o f d = side_back_opt rule side delay o (rw o at rule.fits) f (rw o at d)
side_back rule false side delay o f d = side_back_plain rule side delay o f (rw o at d)

-- and so is the delay
pub delay_back :
    (rule : SideRule) (opt : Bool) (side : Option ℕ) (delay : ℕ) → rule.opt ≡ opt → delay < 2 ^ delay_bits rule →
    delay_of rule (side_and_delay rule side delay) ≡ delay
delay_back rule true side delay o d = delay_back_opt rule side delay o (rw o at rule.fits) (rw o at d)
delay_back rule false side delay o d = delay_back_plain rule side delay o (rw o at d)

-- both fit in five bits
pub shares_below :
    (rule : SideRule) (side : Option ℕ) (delay : ℕ) → SideFits rule side → delay < 2 ^ delay_bits rule →
    side_and_delay rule side delay < 32
unfolding side_and_delay
shares_below rule None delay f d = below_power (delay_bits rule) 5 delay (omega arith) d
shares_below rule (Some value) delay f d =
    omega (arith, side_below rule.opt rule.bits (delay_bits rule) value (omega (arith, rule.fits)) f.0)
