-- The rule of a program without side-set (RP2040 Datasheet, section 3.5.1).
use Rattle.std.specs.Prelude.{false}
use Rattle.pio_encode.specs.declared.rule.SideRule.{SideRule}
use Rattle.setup_keys.proofs.Making.{a_rule_says}

-- bits 12 to 8 are all the delay's
abbrev pub no_side_set : SideRule
no_side_set = (a_rule_says (record { bits = 0; opt = false; pindirs = false })).0
