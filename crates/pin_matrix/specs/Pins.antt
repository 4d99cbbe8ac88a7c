-- What is written to pins, and which write counts. In a number bit i is for pin i.
--   is_high         the level of one pin
--   rotated_right   a word turned round
--   writes_of       the pins that a mapped value is written to, and the bits that they get
--   place_of        a pin's place in a mapping
--   IsWrite         that a pair is such a write
--   written         the pins after one write
--   merged          the pins after all writes of a clock
--   last_of         the same for one pin
--   IsFree          that a write leaves a pin
use Rattle.std.specs.Prelude.{◌≡◌, ℕ, Bool, ◌+◌, ◌-◌, ◌*◌, ◌/◌, ◌%◌, ◌^◌, ◌<◌, ◌≤◌, ◌==◌, List, [], ◌∷◌, bit_and, bit_or, if◌then◌else◌}
use Rattle.std.specs.Int.{bit_at}
use Rattle.pin_matrix.specs.declared.mapping.Mapping.{Mapping}

-- A pin is high where its bit of the levels is 1.
abbrev pub is_high : (levels pin : ℕ) → Bool
is_high levels pin = bit_at levels pin == 1

-- The word turned right by n bits, up to 32: its low n bits come to be at the top.
abbrev pub rotated_right : ℕ → ℕ → ℕ
rotated_right word n = word / 2 ^ n + word % 2 ^ n * 2 ^ (32 - n)

-- The pins that a value is written to by a mapping, and the bits that they get: the low bits, as many as the mapping's
-- count, turned left by its base (RP2040 Datasheet, section 3.5.6). Pin by pin: the law `each_mapped_pin`.
abbrev pub writes_of : Mapping → ℕ → ℕ × ℕ
writes_of m value = (rotated_right ((2 ^ 32 - 1) % 2 ^ m.count) (32 - m.base), rotated_right (value % 2 ^ m.count) (32 - m.base))

-- A pin's place in a mapping: place i is that of pin (base + i) mod 32, which is mapped where i is below the count.
abbrev pub place_of : Mapping → ℕ → ℕ
place_of m p = (p + 32 - m.base) % 32

-- A write of pins: those that it holds, and the bits that they get, which are 0 at all others.
pub record IsWrite (w : ℕ × ℕ) : Type 0 where
  pub pins : w.0 < 2 ^ 32
  pub bits : w.1 < 2 ^ 32
  pub within : (p : ℕ) → bit_at w.1 p ≤ bit_at w.0 p

-- The pins after one write: those that it holds get its bits, and the others stay. A write of no pins changes nothing.
abbrev pub written : ℕ → ℕ × ℕ → ℕ
written old w = if w.0 == 0 then old else bit_or w.1 (bit_and old (2 ^ 32 - 1 - w.0))

-- The pins after all writes of a clock, which are listed by machine, side-set's last of its machine's (RP2040 Datasheet,
-- section 3.5.6.1: the highest-numbered machine has priority, and side-set over OUT and SET within a machine).
unfoldable pub merged : ℕ → List (ℕ × ℕ) → ℕ
merged old [] = old
merged old (w ∷ ws) = merged (written old w) ws

-- The bit of a pin after all writes of a clock: that of the last write in the list that holds the pin, else the old one.
unfoldable pub last_of : ℕ → ℕ → List (ℕ × ℕ) → ℕ
last_of p old [] = old
last_of p old (w ∷ ws) = last_of p (if bit_at w.0 p == 1 then bit_at w.1 p else old) ws

-- A write that doesn't hold the pin.
abbrev pub IsFree : ℕ → ℕ × ℕ → Type 0
IsFree p w = bit_at w.0 p ≡ 0
