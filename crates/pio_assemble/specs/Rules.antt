-- The rule of a `.side_set` (RP2040 Datasheet, section 3.5.1).
use Rattle.std.specs.Prelude.{ℕ, Bool, false}
use Rattle.pio_encode.specs.declared.rule.SideRule.{SideRule}
use Rattle.setup_keys.proofs.Making.{a_rule_says}

-- so many bits, which are brought into range (`clipped_rule`): there is such a rule (`a_clipped_rule_has_a_rule`)
abbrev pub rule_of : ℕ → Bool → Bool → SideRule
rule_of bits opt pindirs = (a_rule_says (record { bits = bits; opt = opt; pindirs = pindirs })).0

-- a program without `.side_set`
abbrev pub no_side_set : SideRule
no_side_set = rule_of 0 false false
