-- What is known of an instruction from its word and the machine's setup.
--   plan_of                        what is to be done in a simple tick of it
--   side_of                        what side-set writes in its first tick
--   side_level, side_direction     its write to levels, and to directions
use Rattle.std.specs.Prelude.{ℕ, if◌then◌else◌, Option, Some, None}
use Rattle.pio_encode.specs.declared.act.Act.{Act}
use Rattle.pio_encode.specs.declared.act.Act.TheVariants as act
use Rattle.pio_encode.specs.declared.act.Condition.TheVariants as condition
use Rattle.pio_encode.specs.declared.act.SetDestination.TheVariants as set_destination
use Rattle.pin_matrix.specs.Pins.{writes_of}
use Rattle.pin_matrix.specs.declared.machine.MachineSetup.{MachineSetup}
use Rattle.sm_registers.specs.declared.plan.Plan.{Plan}
use Rattle.sm_registers.specs.declared.plan.Plan.TheVariants.{Jump, CountX, CountY, Set, Out, Other, Whole}
use Rattle.sm_registers.specs.declared.plan.Side.{Side}
use Rattle.sm_registers.specs.declared.plan.Side.TheVariants.{Nothing, Levels, Directions}

-- JMP always, `x--` and `y--`, SET to pins and OUT have plans of their own; other acts that never wait are done as in any tick
abbrev pub plan_of : MachineSetup → Act → Plan
plan_of s (act.Jmp condition.Always target) = Jump target
plan_of s (act.Jmp condition.XDecrement target) = CountX target
plan_of s (act.Jmp condition.YDecrement target) = CountY target
plan_of s (act.Jmp c target) = Other
plan_of s (act.Set set_destination.Pins value) = let write = writes_of s.set value in Set write.0 write.1
plan_of s (act.Set destination value) = Other
plan_of s (act.Out destination count) = Out destination count
plan_of s (act.Mov destination operation source) = Other
plan_of s act.Nothing = Other
plan_of s a = Whole

-- side-set goes to levels, or under a rule of the setup to directions (RP2040 Datasheet, section 3.5.1)
abbrev pub side_of : MachineSetup → (value : Option ℕ) → Side
side_of s None = Nothing
side_of s (Some value) = if s.side_rule.pindirs then Directions (writes_of s.side value) else Levels (writes_of s.side value)

-- no pin is written where the write isn't one to levels
abbrev pub side_level : Side → ℕ × ℕ
side_level (Levels write) = write
side_level side = (0, 0)

-- the same of directions
abbrev pub side_direction : Side → ℕ × ℕ
side_direction (Directions write) = write
side_direction side = (0, 0)
