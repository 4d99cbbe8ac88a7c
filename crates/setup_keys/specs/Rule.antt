-- What a side-set rule says, in numbers (RP2040 Datasheet, section 3.5.1).
--   RuleKeys, keys_of_rule   what a rule says
--   most_bits, clipped_rule  the same with no more bits than there is room for
use Rattle.std.specs.Prelude.{ℕ, min, Bool, if◌then◌else◌}
use Rattle.pio_encode.specs.declared.rule.SideRule.{SideRule}

-- so many bits, with an enable bit or without one, for pin directions or levels
pub record RuleKeys : Type 0 where
  pub bits : ℕ
  pub opt : Bool
  pub pindirs : Bool

-- what a rule says
abbrev pub keys_of_rule : SideRule → RuleKeys
keys_of_rule r = record { bits = r.bits; opt = r.opt; pindirs = r.pindirs }

-- how many side-set bits there may be: an enable bit takes one of five
abbrev pub most_bits : Bool → ℕ
most_bits opt = if opt then 4 else 5

-- as many bits as there is room for
abbrev pub clipped_rule : RuleKeys → RuleKeys
clipped_rule k = record k { bits = min k.bits (most_bits k.opt) }
