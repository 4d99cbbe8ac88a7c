-- What the machines so far want of their block in a clock, merged.
--   nothing_wanted   of no machine
--   with_intent      with one machine more
use Rattle.std.specs.Prelude.{ℕ, bit_or}
use Rattle.sm_registers.specs.declared.intent.Intent.{Intent}
use Rattle.sm_registers.specs.Intents.{written_by}
use Rattle.block_core.specs.declared.merging.Wanted.{Wanted}

-- levels and directions stay, and no flag is lowered or raised
unfoldable pub nothing_wanted : (levels directions : ℕ) → Wanted
nothing_wanted levels directions = record {
  outputs = record { levels = levels; directions = directions };
  clears = 0;
  sets = 0;
}

-- its writes take precedence over those of the machines before it
unfoldable pub with_intent : Wanted → Intent → Wanted
with_intent w i = record {
  outputs = written_by w.outputs i;
  clears = bit_or w.clears i.clears;
  sets = bit_or w.sets i.sets;
}
