-- What the code's parts of a machine's table say.
use Rattle.block_config.specs.declared.machines.PinValues.{PinValues}
use Rattle.block_config.specs.declared.machines.ClockValues.{ClockValues}
use Rattle.block_config.specs.declared.machines.FlagValues.{FlagValues}
use Rattle.block_config.specs.declared.machines.CountValues.{CountValues}
use Rattle.block_config.specs.declared.machines.FirstValues.{FirstValues}
use Rattle.block_config.specs.declared.machines.MachineRun.{MachineRun}
use Rattle.block_config.specs.Loads.{loaded_of}
use Rattle.block_config.specs.Machines.{RunKeys, PinKeys, ClockKeys, FlagKeys, CountKeys, FirstKeys}

-- the machine's number, its load and its start
abbrev pub run_view : MachineRun → RunKeys
run_view r = record { id = r.id; load = loaded_of r.load; start = r.start }

-- the pins
abbrev pub pins_view : PinValues → PinKeys
pins_view p = record {
  in_base = p.in_base;
  out_base = p.out_base;
  set_base = p.set_base;
  side_base = p.side_base;
  jmp_pin = p.jmp_pin;
  out_count = p.out_count;
  set_count = p.set_count;
}

-- the divider
abbrev pub clock_view : ClockValues → ClockKeys
clock_view c = record { int = c.int; frac = c.frac }

-- the flags
abbrev pub flags_view : FlagValues → FlagKeys
flags_view f = record {
  in_right = f.in_right;
  out_right = f.out_right;
  autopush = f.autopush;
  autopull = f.autopull;
  join_tx = f.join_tx;
  join_rx = f.join_rx;
  status_rx = f.status_rx;
}

-- the thresholds and the registers
abbrev pub counts_view : CountValues → CountKeys
counts_view c = record { push_threshold = c.push_threshold; pull_threshold = c.pull_threshold; status_n = c.status_n; x = c.x; y = c.y }

-- the shift registers at the start, and the word that is executed first
abbrev pub first_view : FirstValues → FirstKeys
first_view f = record { isr = f.isr; osr = f.osr; isr_count = f.isr_count; osr_count = f.osr_count; pending = f.pending }
