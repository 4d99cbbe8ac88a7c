-- Machines whose instructions leave no choice.
--   is_settled       where an instruction goes and which levels it writes doesn't depend on data
--   has_one_way      that, and it never waits
--   goes_to          the address after such an instruction
--   reached          the addresses that a machine comes to
--   IsSimple         a span between edges of levels that excuses no from-event
--   LeavesNoChoice   each instruction that a span's machine comes to has one way
use Rattle.std.specs.Prelude.{◌≡◌, ℕ, zero, suc, Bool, true, false, not, ◌&&◌, Some, None, [], slice_index, slice_index_or}
use Rattle.pio_encode.specs.declared.act.Act.{Act}
use Rattle.pio_encode.specs.declared.act.Act.TheVariants.{Jmp, Wait, In, Out, Push, Pull, Mov, Irq, Set, Nothing}
use Rattle.pio_encode.specs.declared.act.Condition.{Condition}
use Rattle.pio_encode.specs.declared.act.Condition.TheVariants as condition
use Rattle.pio_encode.specs.declared.act.OutDestination.{OutDestination}
use Rattle.pio_encode.specs.declared.act.OutDestination.TheVariants as out_destination
use Rattle.pio_encode.specs.declared.act.MovDestination.{MovDestination}
use Rattle.pio_encode.specs.declared.act.MovDestination.TheVariants as mov_destination
use Rattle.pio_encode.specs.declared.op.Op.{Op}
use Rattle.pio_encode.specs.Word.{reading_of}
use Rattle.pin_matrix.specs.declared.machine.MachineSetup.{MachineSetup}
use Rattle.pin_matrix.specs.declared.setup.Setup.{Setup}
use Rattle.pin_matrix.specs.declared.span.PinSignal.TheVariants.{Level}
use Rattle.pin_matrix.specs.declared.span.Span.{Span}
use Rattle.span_step.specs.Outcomes.{may_stall}
use Rattle.span_step.specs.Steps.{next_address}
use Rattle.span_check.specs.Asked.{IsPlain}

-- a JMP that is always taken
abbrev pub is_always : Condition → Bool
is_always condition.Always = true
is_always _ = false

-- an OUT that writes no level and takes neither an address nor a word from its bits
abbrev pub is_settled_out : OutDestination → Bool
is_settled_out out_destination.Pins = false
is_settled_out out_destination.Pc = false
is_settled_out out_destination.Exec = false
is_settled_out _ = true

-- a MOV that writes no level and takes neither an address nor a word from its source
abbrev pub is_settled_mov : MovDestination → Bool
is_settled_mov mov_destination.Pins = false
is_settled_mov mov_destination.Pc = false
is_settled_mov mov_destination.Exec = false
is_settled_mov _ = true

-- Where the instruction goes, and which levels it writes, doesn't depend on data: no JMP with a condition; no OUT or MOV to
-- PINS, PC or EXEC.
unfoldable pub is_settled : Act → Bool
is_settled (Jmp c address) = is_always c
is_settled (Wait polarity source index) = true
is_settled (In source count) = true
is_settled (Out destination count) = is_settled_out destination
is_settled (Push if_full block) = true
is_settled (Pull if_empty block) = true
is_settled (Mov destination operation source) = is_settled_mov destination
is_settled (Irq clear waits index) = true
is_settled (Set destination value) = true
is_settled Nothing = true

-- such an instruction that never waits either
abbrev pub has_one_way : Act → MachineSetup → Bool
has_one_way act s = is_settled act && not (may_stall act s)

-- the address after an instruction with one way: that of a JMP, else the one that follows
unfoldable pub goes_to : Act → (following : ℕ) → ℕ
goes_to (Jmp c address) following = address
goes_to (Wait polarity source index) following = following
goes_to (In source count) following = following
goes_to (Out destination count) following = following
goes_to (Push if_full block) following = following
goes_to (Pull if_empty block) following = following
goes_to (Mov destination operation source) following = following
goes_to (Irq clear waits index) following = following
goes_to (Set destination value) following = following
goes_to Nothing following = following

-- the instruction at an address, by the machine's side-set rule
abbrev pub instruction_at : Setup → MachineSetup → ℕ → Op
instruction_at u s address = reading_of (slice_index u.memory address) s.side_rule

-- the address of each instruction that a machine comes to, from its start on, where each has one way
unfoldable pub reached : Setup → MachineSetup → ℕ → ℕ
reached u s zero = s.start
reached u s (suc i) =
    goes_to (instruction_at u s (reached u s i)).act (next_address s (reached u s i))

-- both events of the span are edges of levels, which any instruction may make, and it has neither `prompt` nor `without` nor
-- an assumption
pub record IsSimple (sp : Span) : Type 0 where
  pub from : sp.from_signal ≡ Some Level
  pub to : sp.to_signal ≡ Some Level
  pub from_any : sp.from_at ≡ []
  pub to_any : sp.to_at ≡ []
  pub plain : IsPlain sp

-- The span is simple, its machine is configured and begins with no pending word, and each instruction that it comes to has one way:
-- no JMP with a condition, nothing that may stall, nothing that writes levels of pins from data, and no PC or EXEC from data.
pub record LeavesNoChoice (u : Setup) (sp : Span) : Type 0 where
  pub simple : IsSimple sp
  pub machine : MachineSetup
  pub configured : slice_index_or u.machines sp.machine None ≡ Some machine
  pub begins : machine.pending ≡ None
  pub one_way : (i : ℕ) → has_one_way (instruction_at u machine (reached u machine i)).act machine ≡ true
