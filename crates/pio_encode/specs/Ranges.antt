-- Which instructions there are: the ranges of their operands, and when one fits a word under a side-set rule.
use Rattle.std.specs.Prelude.{◌≡◌, ℕ, ◌+◌, ◌-◌, ◌^◌, ◌<◌, ◌≤◌, if◌then◌else◌, MatchBool, Option, Some, None}
use Rattle.pio_encode.specs.declared.act.Act.{Act}
use Rattle.pio_encode.specs.declared.act.Act.TheVariants.{Jmp, Wait, In, Out, Push, Pull, Mov, Irq, Set, Nothing}
use Rattle.pio_encode.specs.declared.op.Op.{Op}
use Rattle.pio_encode.specs.declared.rule.SideRule.{SideRule}

-- each operand is in the range of its field (RP2040 Datasheet, section 3.4)
abbrev pub IsInRange : Act → Type 0
IsInRange (Jmp condition address) = address < 32
IsInRange (Wait polarity source index) = index < 32
IsInRange (In source count) = (1 ≤ count) × (count ≤ 32)
IsInRange (Out destination count) = (1 ≤ count) × (count ≤ 32)
IsInRange (Push if_full block) = Unit {0}
IsInRange (Pull if_empty block) = Unit {0}
IsInRange (Mov destination operation source) = Unit {0}
IsInRange (Irq clear wait index) = index < 32
IsInRange (Set destination value) = value < 32
IsInRange Nothing = Unit {0}

-- it is one of the nine instructions
abbrev pub IsInstruction : Act → Type 0
IsInstruction Nothing = ⊥
IsInstruction _ = Unit {0}

-- how many of bits 12 to 8 carry the delay
abbrev pub delay_bits : SideRule → ℕ
delay_bits rule = 5 - (rule.bits + (if rule.opt then 1 else 0))

-- A side-set value is there and within its bits, or is left out where the rule lets it: a rule with bits and
-- without opt asks for one, one without bits and opt has none (RP2040 Datasheet, section 3.5.1).
abbrev pub SideFits : SideRule → Option ℕ → Type 0
SideFits rule (Some value) = (value < 2 ^ rule.bits) × (1 ≤ rule.bits + (if rule.opt then 1 else 0))
SideFits rule None = MatchBool rule.opt (Unit {0}) (rule.bits ≡ 0)

-- an instruction has a word under a side-set rule
pub record OpFits (op : Op) (rule : SideRule) : Type 0 where
  pub instruction : IsInstruction op.act
  pub operands : IsInRange op.act
  pub side : SideFits rule op.side
  pub delay : op.delay < 2 ^ delay_bits rule
