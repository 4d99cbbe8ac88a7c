-- What is on the pads, and what a machine sees of them. In a number bit i is for pin i.
--   pads_of         the pads of a clock
--   Synchroniser    what the input synchronisers hold
--   seen_of         what a machine sees
--   after_pads      the synchronisers after some clocks
--   one_clock_ago, two_clocks_ago  the pads then, in the whole history
use Rattle.std.specs.Prelude.{ℕ, ◌-◌, ◌^◌, ◌==◌, List, [], ◌∷◌, length, slice_index_or, bit_and, bit_or, if◌then◌else◌}

-- The pads: of each pin its level where its direction is out, else the outside value (RP2040 Datasheet, section 2.19).
abbrev pub pads_of : (level direction outside : ℕ) → ℕ
pads_of level direction outside = bit_or (bit_and level direction) (bit_and outside (2 ^ 32 - 1 - direction))

-- The two flip-flops of each pin (RP2040 Datasheet, section 3.5.6.3): the pads one clock ago and two clocks ago, and the
-- pins that bypass them.
pub record Synchroniser : Type 0 where
  pub pad_1 : ℕ
  pub pad_2 : ℕ
  pub bypass : ℕ

-- What a machine sees: of each pin the pad of two clocks ago, or of now where it bypasses the synchroniser.
abbrev pub seen_of : (bypass pad pad_2 : ℕ) → ℕ
seen_of bypass pad pad_2 = if bypass == 0 then pad_2 else bit_or (bit_and pad_2 (2 ^ 32 - 1 - bypass)) (bit_and pad bypass)

-- Before clock 0 the pads were always the same (choice of this profile).
abbrev pub first_synchroniser : (pad bypass : ℕ) → Synchroniser
first_synchroniser pad bypass = record { pad_1 = pad; pad_2 = pad; bypass = bypass }

-- One clock on, in which these were the pads.
abbrev pub stepped : ℕ → Synchroniser → Synchroniser
stepped pad s = record s { pad_1 = pad; pad_2 = s.pad_1 }

-- The synchronisers after clocks with these pads, in order.
unfoldable pub after_pads : List ℕ → Synchroniser → Synchroniser
after_pads [] s = s
after_pads (pad ∷ pads) s = after_pads pads (stepped pad s)

-- The pads one clock ago and two clocks ago, where these were those of all clocks from 0 on, and there was another one before.
abbrev pub one_clock_ago : ℕ → List ℕ → ℕ
one_clock_ago before pads = slice_index_or (before ∷ pads) (length pads) before

-- The same two clocks ago (RP2040 Datasheet, section 3.5.6.3: a synchroniser is two flip-flops).
abbrev pub two_clocks_ago : ℕ → List ℕ → ℕ
two_clocks_ago before pads = slice_index_or (before ∷ before ∷ pads) (length pads) before
