-- What a key's value has to be (choice of this profile).
--   Numbered, Flagged            a key whose value is a whole number, or true or false
--   described, flag_described    what the code's descriptions say
use Rattle.std.specs.Prelude.{ℕ, Bool, Option, List}
use Rattle.block_config.specs.declared.keys.NumberKey.{NumberKey}
use Rattle.block_config.specs.declared.keys.FlagKey.{FlagKey}

-- a whole number from low to high; a key without a default is required
pub record Numbered : Type 0 where
  pub name : List ℕ
  pub low : ℕ
  pub high : ℕ
  pub default : Option ℕ

-- true or false
pub record Flagged : Type 0 where
  pub name : List ℕ
  pub default : Bool

-- what the code's description of a number says
abbrev pub described : NumberKey → Numbered
described k = record { name = k.name.now; low = k.low; high = k.high; default = k.default }

-- what the code's description of a flag says
abbrev pub flag_described : FlagKey → Flagged
flag_described k = record { name = k.name.now; default = k.default }
