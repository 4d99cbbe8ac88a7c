-- Which sticky FIFO flags a machine has raised before. A stall raises its flag in its first tick, and again in each late one;
-- so late ticks that were not made are not missed where the flag is up already.
--   AreUp        flags are up
--   IsToldAct    those of an instruction that stalled before
--   IsKnown      those of a machine
use Rattle.std.specs.Prelude.{◌≡◌, ℕ, nat_le, true, bit_or}
use Rattle.pio_encode.specs.declared.act.Act.{Act}
use Rattle.pio_encode.specs.declared.act.Act.TheVariants.{In, Out, Push, Pull}
use Rattle.pin_matrix.specs.declared.machine.MachineSetup.{MachineSetup}
use Rattle.sm_registers.specs.declared.sticky.TheConstants.{TX_STALL, RX_STALL}
use Rattle.sm_registers.specs.declared.registers.Registers.{Registers}
use Rattle.sm_registers.specs.View.{View}
use Rattle.sm_registers.specs.Rules.{current_act}

-- the flags are up already: to raise them changes nothing (RP2040 Datasheet, section 3.7, FDEBUG)
abbrev pub AreUp : (flags sticky : ℕ) → Type 0
AreUp flags sticky = bit_or flags sticky ≡ sticky

-- The flags that an instruction raised as it stalled before. An OUT that has bits to shift out again raises none.
abbrev pub IsToldAct : Act → MachineSetup → (out_count sticky : ℕ) → Type 0
IsToldAct (In source n) s out_count sticky = AreUp RX_STALL sticky
IsToldAct (Out destination n) s out_count sticky = nat_le s.pull_threshold out_count ≡ true → AreUp TX_STALL sticky
IsToldAct (Push if_full block) s out_count sticky = AreUp RX_STALL sticky
IsToldAct (Pull if_empty block) s out_count sticky = AreUp TX_STALL sticky
IsToldAct act s out_count sticky = Unit

-- where its instruction stalled before, the flags of that stall are up
abbrev pub IsKnown : View → MachineSetup → Registers → (sticky : ℕ) → Type 0
IsKnown v s r sticky = r.begun ≡ true → IsToldAct (current_act v r) s r.out_count sticky
