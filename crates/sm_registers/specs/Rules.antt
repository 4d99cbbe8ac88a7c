-- Words of the rules of a tick, as the datasheet speaks of instructions.
--   current_act      the instruction that a tick runs
--   writes_pc        it writes PC: a taken JMP, OUT PC, MOV PC
--   is_exec          it makes a word the next instruction: OUT EXEC, MOV EXEC
--   fills_osr        it is a MOV to the OSR
--   waits_for_tx     it is one that may wait for a word of TX: OUT, PULL
--   is_pull          it is a PULL
--   bits_out         how many bits it shifts out of the OSR
--   HasSideSet       what side-set writes in a tick
--   HoldsOrGives     the ISR after a tick, or the word that was pushed of it
--   raises           a sticky FIFO flag is among those raised
--   holds            a pin is mapped
use Rattle.std.specs.Prelude.{◌≡◌, nat_lt, ℕ, ◌/◌, ◌%◌, ◌==◌, Bool, true, false, Some, None, slice_index_or}
use Rattle.pio_encode.specs.declared.act.Act.{Act}
use Rattle.pio_encode.specs.declared.act.Act.TheVariants.{Jmp, Out, Pull, Mov}
use Rattle.pio_encode.specs.declared.act.OutDestination.TheVariants as out_destination
use Rattle.pio_encode.specs.declared.act.MovDestination.TheVariants as mov_destination
use Rattle.pio_encode.specs.Word.{act_of}
use Rattle.pin_matrix.specs.Pins.{place_of}
use Rattle.pin_matrix.specs.declared.machine.MachineSetup.{MachineSetup}
use Rattle.pin_matrix.specs.declared.mapping.Mapping.{Mapping}
use Rattle.sm_registers.specs.declared.registers.Registers.{Registers}
use Rattle.sm_registers.specs.View.{View}
use Rattle.sm_registers.specs.declared.intent.Intent.{Intent}
use Rattle.sm_registers.specs.Effects.{jumps}
use Rattle.sm_registers.specs.Tick.{current_word}

-- the instruction that a tick runs, where no delay is left (RP2040 Datasheet, section 3.5.7)
abbrev pub current_act : View → Registers → Act
current_act v r = act_of (current_word v r)

-- as it finishes it writes PC: a JMP that is taken, OUT PC and MOV PC (sections 3.4.2, 3.4.5 and 3.4.8)
abbrev pub writes_pc : Act → MachineSetup → View → Registers → Bool
writes_pc (Jmp c address) s v r = jumps c s v r
writes_pc (Out out_destination.Pc n) s v r = true
writes_pc (Mov mov_destination.Pc operation source) s v r = true
writes_pc act s v r = false

-- it makes a word the next instruction: OUT EXEC and MOV EXEC (sections 3.4.5 and 3.4.8)
abbrev pub is_exec : Act → Bool
is_exec (Out out_destination.Exec n) = true
is_exec (Mov mov_destination.Exec operation source) = true
is_exec act = false

-- it fills the OSR from another place than TX: MOV OSR (section 3.4.8)
abbrev pub fills_osr : Act → Bool
fills_osr (Mov mov_destination.Osr operation source) = true
fills_osr act = false

-- it may wait for a word of TX: OUT and PULL (sections 3.4.5 and 3.4.7)
abbrev pub waits_for_tx : Act → Bool
waits_for_tx (Out destination n) = true
waits_for_tx (Pull if_empty block) = true
waits_for_tx act = false

-- it is a PULL (section 3.4.7)
abbrev pub is_pull : Act → Bool
is_pull (Pull if_empty block) = true
is_pull act = false

-- how many bits it shifts out of the OSR (section 3.4.5)
abbrev pub bits_out : Act → ℕ
bits_out (Out destination n) = n
bits_out act = 0

-- what side-set writes in a tick: the second write to levels, and the second to directions (section 3.5.1)
pub record HasSideSet (i : Intent) (to_levels to_directions : ℕ × ℕ) : Type 0 where
  pub level : slice_index_or i.level 1 (0, 0) ≡ to_levels
  pub direction : slice_index_or i.direction 1 (0, 0) ≡ to_directions

-- After a tick the ISR holds these bits and has this count, or it was pushed with these bits and is empty (section 3.5.4).
pub record HoldsOrGives (isr count : ℕ) (x : Registers × Intent) : Type 0 where
  pub held : x.1.word ≡ None → (x.0.isr ≡ isr) × (x.0.in_count ≡ count)
  pub given : (w : ℕ) → x.1.word ≡ Some w → (w ≡ isr) × ((x.0.isr ≡ 0) × (x.0.in_count ≡ 0))

-- the flag, a power of 2, is among those raised
abbrev pub raises : (flag : ℕ) → ℕ → Bool
raises flag sticky = sticky / flag % 2 == 1

-- the pin is one of a mapping (section 3.5.6)
abbrev pub holds : Mapping → ℕ → Bool
holds m p = nat_lt (place_of m p) m.count
