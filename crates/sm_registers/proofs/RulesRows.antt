-- Rows of the rules of a tick, worked by hand: which instructions write PC, fill the OSR and pull.
use Rattle.std.proofs.Common.{◌≡◌, true, false, None, List, [], ◌∷◌, replicate, refl, arith}
use Rattle.std.specs.Prelude.{map}
use Rattle.pio_encode.specs.declared.act.Act.{Act}
use Rattle.pio_encode.specs.declared.act.Act.TheVariants.{Jmp, Wait, In, Out, Push, Pull, Mov, Irq, Set, Nothing}
use Rattle.pio_encode.specs.declared.act.Condition.TheVariants as condition
use Rattle.pio_encode.specs.declared.act.WaitSource.TheVariants as wait_source
use Rattle.pio_encode.specs.declared.act.InSource.TheVariants as in_source
use Rattle.pio_encode.specs.declared.act.OutDestination.TheVariants as out_destination
use Rattle.pio_encode.specs.declared.act.MovDestination.TheVariants as mov_destination
use Rattle.pio_encode.specs.declared.act.MovOperation.TheVariants as mov_operation
use Rattle.pio_encode.specs.declared.act.MovSource.TheVariants as mov_source
use Rattle.pio_encode.specs.declared.act.SetDestination.TheVariants as set_destination
use Rattle.pin_matrix.specs.declared.machine.MachineSetup.{MachineSetup}
use Rattle.sm_registers.specs.declared.registers.Registers.{Registers}
use Rattle.sm_registers.specs.View.{View}
use Rattle.sm_registers.specs.Rules.{writes_pc, is_exec, fills_osr, is_pull, waits_for_tx, bits_out}

-- one of each of the nine instructions, with a word that is none: a JMP, a WAIT, an IN, an OUT to X, a PUSH, a PULL, a MOV to X, an
-- IRQ and a SET
abbrev one_of_each : List Act
one_of_each =
    Jmp condition.XZero 5 ∷ Wait true wait_source.Gpio 3 ∷ In in_source.Pins 8 ∷ Out out_destination.X 8 ∷ Push false true
    ∷ Pull false true ∷ Mov mov_destination.X mov_operation.Plain mov_source.Y ∷ Irq false true 2 ∷ Set set_destination.X 7 ∷ Nothing ∷ []

-- a machine whose OSR is pulled again after 32 bits, and whose `jmp pin` looks at pin 3
abbrev machine : MachineSetup
machine = record {
  id = 0;
  start = 0;
  x = 0;
  y = 0;
  isr = 0;
  osr = 0;
  isr_count = 0;
  osr_count = 32;
  pending = None;
  int = 1;
  frac = 0;
  side_rule = record { bits = 0; opt = false; pindirs = false; fits = omega arith };
  wrap_bottom = 0;
  wrap_top = 31;
  in_base = 0;
  jmp_pin = 3;
  out = record { base = 0; count = 0; base_is_a_pin = omega arith; count_fits = omega arith };
  set = record { base = 0; count = 5; base_is_a_pin = omega arith; count_fits = omega arith };
  side = record { base = 0; count = 0; base_is_a_pin = omega arith; count_fits = omega arith };
  in_right = true;
  out_right = true;
  autopush = false;
  autopull = false;
  push_threshold = 32;
  pull_threshold = 32;
  join_tx = false;
  join_rx = false;
  status_rx = false;
  status_n = 0;
  id_in_block = omega arith;
  start_in_memory = omega arith;
  isr_has_bits = omega arith;
  osr_has_bits = omega arith;
  divides = refl;
  wrap_bottom_in_memory = omega arith;
  wrap_top_in_memory = omega arith;
  in_base_is_a_pin = omega arith;
  jmp_pin_is_a_pin = omega arith;
  sets_five_at_most = omega arith;
  pushes_some = omega arith;
  pushes_a_word = omega arith;
  pulls_some = omega arith;
  pulls_a_word = omega arith;
  joins_one_way = refl;
  status_in_field = omega arith;
}

-- pin 3 is high
abbrev view : View
view = record { memory = []; seen = 8; flags = record { up = 0 } }

-- X is 0, Y is 2, and the OSR is empty
abbrev registers : Registers
registers = record { pc = 4; x = 0; y = 2; isr = 0; osr = 0; in_count = 0; out_count = 32; delay = 0; pending = None; begun = false }

-- of these the JMP alone writes PC, since X is 0 (RP2040 Datasheet, section 3.4.2)
writers_row : map (λ act. writes_pc act machine view registers) one_of_each
    ≡ true ∷ false ∷ false ∷ false ∷ false ∷ false ∷ false ∷ false ∷ false ∷ false ∷ []
writers_row = refl

-- a JMP that isn't taken doesn't: `y--` is taken with Y = 2, `pin` with pin 3 high, `x--` with X = 0 and `!osre` are not
jumps_row : map (λ c. writes_pc (Jmp c 5) machine view registers)
    (condition.Always ∷ condition.XZero ∷ condition.XDecrement ∷ condition.YZero ∷ condition.YDecrement ∷ condition.XNotY ∷ condition.Pin ∷ condition.OsrNotEmpty ∷ [])
    ≡ true ∷ true ∷ false ∷ false ∷ true ∷ true ∷ true ∷ false ∷ []
jumps_row = refl

-- OUT PC and MOV PC do (sections 3.4.5 and 3.4.8)
to_pc_row : (writes_pc (Out out_destination.Pc 8) machine view registers ≡ true)
    × (writes_pc (Mov mov_destination.Pc mov_operation.Plain mov_source.X) machine view registers ≡ true)
to_pc_row = (refl, refl)

-- an OUT or a MOV to EXEC doesn't, nor does a MOV to the OSR
to_exec_row : (writes_pc (Out out_destination.Exec 8) machine view registers ≡ false)
    × (writes_pc (Mov mov_destination.Exec mov_operation.Plain mov_source.X) machine view registers ≡ false)
    × (writes_pc (Mov mov_destination.Osr mov_operation.Plain mov_source.X) machine view registers ≡ false)
to_exec_row = (refl, refl, refl)

-- none of these fills the OSR from another place than TX, a PULL neither (section 3.4.7)
fillers_row : map fills_osr one_of_each ≡ replicate 10 false
fillers_row = refl

-- of the MOVs that to the OSR does, whatever its source (section 3.4.8)
movs_row : map (λ d. fills_osr (Mov d mov_operation.Invert mov_source.Null))
    (mov_destination.Pins ∷ mov_destination.X ∷ mov_destination.Y ∷ mov_destination.Exec ∷ mov_destination.Pc ∷ mov_destination.Isr ∷ mov_destination.Osr ∷ [])
    ≡ false ∷ false ∷ false ∷ false ∷ false ∷ false ∷ true ∷ []
movs_row = refl

-- PULL alone is one, and an OUT is none (sections 3.4.5 and 3.4.7)
pulls_row : map is_pull one_of_each ≡ false ∷ false ∷ false ∷ false ∷ false ∷ true ∷ false ∷ false ∷ false ∷ false ∷ []
pulls_row = refl

-- with `ifempty` and without `block` it still is one
pull_forms_row : (is_pull (Pull true true) ≡ true) × (is_pull (Pull true false) ≡ true) × (is_pull (Pull false false) ≡ true)
pull_forms_row = (refl, refl, refl)

-- OUT and PULL may wait for a word of TX, PUSH may not
waiters_row : map waits_for_tx one_of_each ≡ false ∷ false ∷ false ∷ true ∷ false ∷ true ∷ false ∷ false ∷ false ∷ false ∷ []
waiters_row = refl

-- none of these makes a word the next instruction
exec_row : map is_exec one_of_each ≡ replicate 10 false
exec_row = refl

-- the OUT shifts 8 bits out, and nothing else any
bits_row : map bits_out one_of_each ≡ 0 ∷ 0 ∷ 0 ∷ 8 ∷ 0 ∷ 0 ∷ 0 ∷ 0 ∷ 0 ∷ 0 ∷ []
bits_row = refl
