-- The numbers of statements: the values of expressions, each in its range, and the instructions that they give (RP2040 Datasheet,
-- section 3.4; Pico SDK manual, section 3.3).
--   number_in      the value of an expression, if it is in a range
--   act_of         what an instruction does
--   suffix_of      its side-set value and its delay, worked out in the order of the text
--   word_of_code   the word of code
use Rattle.std.specs.Prelude.{ℕ, ℤ, pos, negsuc, ◌+◌, ◌-◌, ◌^◌, ◌<◌, ◌==◌, ◌&&◌, nat_le, Bool, true, false, if◌then◌else◌, unwrap_or, List, Option, Some, None, Result, Ok, Err}
use Rattle.pio_encode.specs.declared.act.Act.{Act}
use Rattle.pio_encode.specs.declared.act.Act.TheVariants as act
use Rattle.pio_encode.specs.declared.act.MovDestination.TheVariants as mov_destination
use Rattle.pio_encode.specs.declared.act.MovOperation.TheVariants as mov_operation
use Rattle.pio_encode.specs.declared.act.MovSource.TheVariants as mov_source
use Rattle.pio_encode.specs.declared.act.WaitSource.{WaitSource}
use Rattle.pio_encode.specs.declared.act.WaitSource.TheVariants as wait_source
use Rattle.pio_encode.specs.declared.op.Op.{Op}
use Rattle.pio_encode.specs.declared.rule.SideRule.{SideRule}
use Rattle.pio_encode.specs.Ranges.{delay_bits}
use Rattle.pio_encode.specs.Word.{word_of}
use Rattle.pio_expr.specs.declared.expr.Item.{Item}
use Rattle.pio_expr.specs.declared.fault.ValueFault.{ValueFault}
use Rattle.pio_expr.specs.declared.fault.ValueFault.TheVariants as value_fault
use Rattle.pio_expr.specs.declared.fault.ValueKind.{ValueKind}
use Rattle.pio_expr.specs.declared.fault.ValueKind.TheVariants as value_kind
use Rattle.pio_expr.specs.Values.{Scope, value_of}
use Rattle.pio_statement.specs.declared.instruction.Form.{Form}
use Rattle.pio_statement.specs.declared.instruction.Form.TheVariants as form
use Rattle.pio_statement.specs.declared.instruction.Instruction.{Instruction}
use Rattle.pio_statement.specs.declared.instruction.IrqMode.{IrqMode}
use Rattle.pio_statement.specs.declared.instruction.IrqMode.TheVariants as irq_mode
use Rattle.pio_statement.specs.declared.instruction.Suffix.{Suffix}
use Rattle.pio_statement.specs.declared.instruction.Suffix.TheVariants as suffix
use Rattle.pio_statement.specs.declared.statement.Code.{Code}
use Rattle.pio_statement.specs.declared.statement.Code.TheVariants as code
use Rattle.pio_assemble.specs.declared.fault.LineFault.{LineFault}
use Rattle.pio_assemble.specs.declared.fault.LineFault.TheVariants as line_fault
use Rattle.pio_assemble.specs.declared.fault.SourceKind.{SourceKind}
use Rattle.pio_assemble.specs.declared.fault.SourceKind.TheVariants.{Unknown, Cycle, DivZero, Overflow, Range}
use Rattle.pio_assemble.specs.declared.instruction.Extras.{Extras}
use Rattle.pio_assemble.specs.declared.quantity.Quantity.{Quantity}
use Rattle.pio_assemble.specs.declared.quantity.Quantity.TheVariants as quantity
use Rattle.answers.specs.Answers.{◌>>=◌}

-- why an expression has no value
abbrev pub kind_of_value : ValueKind → SourceKind
kind_of_value (value_kind.Unknown name) = Unknown name
kind_of_value (value_kind.Cycle name) = Cycle name
kind_of_value value_kind.DivZero = DivZero
kind_of_value value_kind.Overflow = Overflow

-- the fault of an expression without a value
abbrev pub told_of_value : ValueFault → LineFault
told_of_value value_fault.Memory = line_fault.Memory
told_of_value (value_fault.Found kind) = line_fault.Found (kind_of_value kind)

-- the value of an expression that is own to a symbol, or to none
abbrev pub valued : Result ℤ ValueKind → Result ℤ SourceKind
valued (Ok n) = Ok n
valued (Err kind) = Err (kind_of_value kind)

-- a number in a range
abbrev pub in_range : Quantity → (low high : ℕ) → ℤ → Result ℕ SourceKind
in_range what low high (pos n) = if nat_le low n && nat_le n high then Ok n else Err (Range what (pos n))
in_range what low high (negsuc n) = Err (Range what (negsuc n))

-- the value of an expression, if it is in a range
abbrev pub number_in : Scope → Quantity → (low high : ℕ) → List Item → Result ℕ SourceKind
number_in scope what low high items = valued (value_of scope None items) >>= in_range what low high

-- an index with `rel`, which is bit 4
abbrev pub with_rel : Bool → ℕ → ℕ
with_rel true index = index + 16
with_rel false index = index

-- the index of a WAIT: `rel` is a flag's alone
abbrev pub wait_index : WaitSource → Bool → ℕ → ℕ
wait_index wait_source.Irq relative index = with_rel relative index
wait_index _ relative index = index

-- a pin's index has five bits, a flag's three
abbrev pub most_index : WaitSource → ℕ
most_index wait_source.Irq = 7
most_index _ = 31

-- an IRQ that raises its flag, and perhaps waits, or lowers it
abbrev pub irq_of : IrqMode → ℕ → Act
irq_of irq_mode.Raise index = act.Irq false false index
irq_of irq_mode.RaiseAndWait index = act.Irq false true index
irq_of irq_mode.Lower index = act.Irq true false index

-- a WAIT: its level before its index
abbrev pub wait_of : Scope → List Item → WaitSource → List Item → Bool → Result Act SourceKind
wait_of scope polarity source index relative = do
  level ← number_in scope quantity.Polarity 0 1 polarity
  place ← number_in scope quantity.Index 0 (most_index source) index
  Ok (act.Wait (level == 1) source (wait_index source relative place))

-- what an instruction does: its numbers from left to right
unfoldable pub act_of : Scope → Form → Result Act SourceKind
act_of scope form.Nop = Ok (act.Mov mov_destination.Y mov_operation.Plain mov_source.Y)
act_of scope (form.Jmp condition target) = do
  address ← number_in scope quantity.Jmp 0 31 target
  Ok (act.Jmp condition address)
act_of scope (form.Wait polarity source index relative) = wait_of scope polarity source index relative
act_of scope (form.In source count) = do
  bits ← number_in scope quantity.Count 1 32 count
  Ok (act.In source bits)
act_of scope (form.Out destination count) = do
  bits ← number_in scope quantity.Count 1 32 count
  Ok (act.Out destination bits)
act_of scope (form.Push if_full block) = Ok (act.Push if_full block)
act_of scope (form.Pull if_empty block) = Ok (act.Pull if_empty block)
act_of scope (form.Mov destination operation source) = Ok (act.Mov destination operation source)
act_of scope (form.Irq mode index relative) = do
  flag ← number_in scope quantity.Index 0 7 index
  Ok (irq_of mode (with_rel relative flag))
act_of scope (form.Set destination value) = do
  data' ← number_in scope quantity.Data 0 31 value
  Ok (act.Set destination data')

-- a side-set value has the rule's bits
abbrev pub side_in : Scope → SideRule → List Item → Result ℕ SourceKind
side_in scope rule items = number_in scope quantity.Side 0 (2 ^ rule.bits - 1) items

-- a delay has the bits that the rule leaves of five
abbrev pub delay_in : Scope → SideRule → List Item → Result ℕ SourceKind
delay_in scope rule items = number_in scope quantity.Delay 0 (2 ^ delay_bits rule - 1) items

-- the side-set value and the delay of an instruction, worked out in the order of the text
unfoldable pub suffix_of : Scope → SideRule → Suffix → Result Extras SourceKind
suffix_of scope rule suffix.None = Ok (record { side = None; delay = 0 })
suffix_of scope rule (suffix.Side side) = do
  value ← side_in scope rule side
  Ok (record { side = Some value; delay = 0 })
suffix_of scope rule (suffix.Delay delay) = do
  ticks ← delay_in scope rule delay
  Ok (record { side = None; delay = ticks })
suffix_of scope rule (suffix.SideDelay side delay) = do
  value ← side_in scope rule side
  ticks ← delay_in scope rule delay
  Ok (record { side = Some value; delay = ticks })
suffix_of scope rule (suffix.DelaySide delay side) = do
  ticks ← delay_in scope rule delay
  value ← side_in scope rule side
  Ok (record { side = Some value; delay = ticks })

-- a rule without bits and without `opt` has no room for the value that it asks for, which is 0 (choice of this profile); one with
-- bits asks for a value, and has the bits of 0 where there is none
abbrev pub side_kept : SideRule → Option ℕ → Option ℕ
side_kept rule side = if rule.opt then side else if rule.bits == 0 then None else Some (unwrap_or side 0)

-- the instruction of an act and its extras
abbrev pub op_of : SideRule → Act → Extras → Op
op_of rule act extras = record { side = side_kept rule extras.side; delay = extras.delay; act = act }

-- the word of an instruction
unfoldable pub word_of_instruction : Scope → SideRule → Instruction → Result ℕ SourceKind
word_of_instruction scope rule i = do
  act ← act_of scope i.form
  extras ← suffix_of scope rule i.suffix
  Ok (word_of (op_of rule act extras) rule)

-- the word of code
abbrev pub word_of_code : Scope → SideRule → Code → Result ℕ SourceKind
word_of_code scope rule (code.Word value) = number_in scope quantity.Word 0 65535 value
word_of_code scope rule (code.Instruction i) = word_of_instruction scope rule i

-- a side-set value and a delay that fit a rule
abbrev pub SideIsWithin : SideRule → Option ℕ → Type 0
SideIsWithin rule side = unwrap_or side 0 < 2 ^ rule.bits
