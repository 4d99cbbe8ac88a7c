-- The table of pins (choice of this profile): lists of pins, each 0 to 31, as numbers in which bit i is for pin i.
--   all_numbers   each element is a number
--   mask_from     the pins of a list, and those of a number
--   mask_at       the pins of a key; an element of another type comes before one out of range
--   PinTable      the five lists
--   pin_names     every key of a block's table
--   pins_in       the pins of a configuration
--   pin_view      what the code's lists of pins say
use Rattle.std.specs.Prelude.{ℕ, ◌^◌, bit_or, Bool, if◌then◌else◌, is_some, Option, Some, None, List, [], ◌∷◌, Result, Ok, Err, codes}
use Rattle.toml.specs.Data.{Data, Items, no_items, item, Members, get_member, as_array, as_integer}
use Rattle.block_config.specs.declared.fault.ConfigKind.{ConfigKind}
use Rattle.block_config.specs.declared.fault.ConfigKind.TheVariants.{WrongType}
use Rattle.block_config.specs.declared.path.Section.TheVariants.{Pins}
use Rattle.block_config.specs.declared.pins.BlockNumber.{BlockNumber}
use Rattle.block_config.specs.declared.pins.BlockNumber.TheVariants.{First, Second}
use Rattle.block_config.specs.declared.pins.PinLists.{PinLists}
use Rattle.block_config.specs.Answer.{ConfigRefusal}
use Rattle.block_config.specs.Arrays.{all_items}
use Rattle.block_config.specs.Values.{number_in}
use Rattle.block_config.specs.Tables.{and_then, on_key, section_at}

-- each element is a number
abbrev pub all_numbers : Items → Bool
all_numbers ds = all_items (λ d. is_some (as_integer d)) ds

-- the pins of a list, and those of a number
unfoldable pub mask_from : ℕ → Items → Result ℕ ConfigKind
mask_from mask no_items = Ok mask
mask_from mask (item d ds) = and_then (number_in 0 31 d) (λ pin. mask_from (bit_or mask (2 ^ pin)) ds)

-- the pins of an array; an element of another type comes before one out of range
abbrev pub mask_in : Option Items → Result ℕ ConfigKind
mask_in None = Err WrongType
mask_in (Some ds) = if all_numbers ds then mask_from 0 ds else Err WrongType

-- the pins of a value, none where it is absent
abbrev pub mask_of : Option Data → Result ℕ ConfigKind
mask_of None = Ok 0
mask_of (Some d) = mask_in (as_array d)

-- the pins of a key
abbrev pub mask_at : Members → List ℕ → Result ℕ ConfigRefusal
mask_at t key = on_key key (mask_of (get_member key t))

-- the five lists
pub record PinTable : Type 0 where
  pub high : ℕ
  pub level : ℕ
  pub out : ℕ
  pub bypass : ℕ
  pub own : ℕ

-- The lists of a table, in this order. A block's table doesn't have all five keys, and a list that isn't there is empty.
abbrev pub pin_table_at : Members → Result PinTable ConfigRefusal
pin_table_at t =
    and_then (mask_at t (codes "high")) (λ high. and_then (mask_at t (codes "level")) (λ level.
    and_then (mask_at t (codes "out")) (λ out. and_then (mask_at t (codes "bypass")) (λ bypass.
    and_then (mask_at t (codes "own")) (λ own.
    Ok (record { high = high; level = level; out = out; bypass = bypass; own = own }))))))

-- Every key of a block's table of pins. Of two blocks on the same pins the first has what the outside drives, and the second the
-- pins that it owns: all others are the first one's.
abbrev pub pin_names : BlockNumber → List (List ℕ)
pin_names First = codes "high" ∷ codes "level" ∷ codes "out" ∷ codes "bypass" ∷ []
pin_names Second = codes "level" ∷ codes "out" ∷ codes "bypass" ∷ codes "own" ∷ []

-- the pins of a block's table, none where it is absent
abbrev pub pins_in : BlockNumber → Option Members → Result PinTable ConfigRefusal
pins_in block None = Ok (record { high = 0; level = 0; out = 0; bypass = 0; own = 0 })
pins_in block (Some t) = section_at Pins (pin_names block) t (pin_table_at t)

-- what the code's lists of pins say
abbrev pub pin_view : PinLists → PinTable
pin_view p = record { high = p.high; level = p.level; out = p.out; bypass = p.bypass; own = p.own }
