-- What the code of an instruction leaves, as the effect that the definitions speak of.
--   effect_by       the effect of an instruction that left these registers, wants this of FIFOs and flags, and ended so
--   end_stalls, end_level, end_direction   its parts: whether it stalls, and its own writes to pins
--   written_end     the outputs after the instruction's own writes
--   written_side    the outputs after side-set's
use Rattle.std.specs.Prelude.{ℕ, Bool, true, false, Some}
use Rattle.pin_matrix.specs.Pins.{written}
use Rattle.sm_registers.specs.declared.end.End.{End}
use Rattle.sm_registers.specs.declared.end.End.TheVariants.{Stalls, GoesOn, Levels, Directions, Jumps, Executes}
use Rattle.sm_registers.specs.declared.intent.Intent.{Intent}
use Rattle.sm_registers.specs.declared.outputs.Outputs.{Outputs}
use Rattle.sm_registers.specs.declared.plan.Side.{Side}
use Rattle.sm_registers.specs.declared.registers.Registers.{Registers}
use Rattle.sm_registers.specs.Effects.{Effect, finished, stall}
use Rattle.sm_registers.specs.Plans.{side_level, side_direction}

-- an effect that wants this of flags and FIFOs
abbrev pub wanting : Intent → Effect → Effect
wanting i e = record e { clears = i.clears; sets = i.sets; take = i.take; word = i.word; sticky = i.sticky }

-- that of an instruction which left these registers, wants this and ended so
abbrev pub effect_by : Registers → Intent → End → Effect
effect_by r i Stalls = wanting i (stall r)
effect_by r i GoesOn = wanting i (finished r)
effect_by r i (Levels write) = wanting i (record (finished r) { level = write })
effect_by r i (Directions write) = wanting i (record (finished r) { direction = write })
effect_by r i (Jumps address) = wanting i (record (finished r) { jump = Some address })
effect_by r i (Executes word) = wanting i (record (finished r) { pending = Some word })

-- an instruction that ends so stalls
abbrev pub end_stalls : End → Bool
end_stalls Stalls = true
end_stalls end = false

-- its own write to levels
abbrev pub end_level : End → ℕ × ℕ
end_level (Levels write) = write
end_level end = (0, 0)

-- and to directions
abbrev pub end_direction : End → ℕ × ℕ
end_direction (Directions write) = write
end_direction end = (0, 0)

-- the pins after it
abbrev pub written_end : End → Outputs → Outputs
written_end end o = record {
  levels = written o.levels (end_level end);
  directions = written o.directions (end_direction end);
}

-- the pins after side-set's
abbrev pub written_side : Side → Outputs → Outputs
written_side side o = record {
  levels = written o.levels (side_level side);
  directions = written o.directions (side_direction side);
}
