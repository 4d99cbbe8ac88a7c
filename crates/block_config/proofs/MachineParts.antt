-- What a machine's table gives is made of: where it runs, its divider, its pins, its flags, its counts and what it begins with.
use Rattle.std.proofs.Common.{◌≡◌, Option, Ok, List}
use Rattle.toml.specs.Data.{Members}
use Rattle.setup_keys.specs.Block.{MachineKeys}
use Rattle.block_config.specs.Machines.{ClockKeys, clock_at, PinKeys, pins_at, FlagKeys, flags_at, CountKeys, counts_at, FirstKeys, first_at, RunKeys, run_at, machine_keys_of, machine_with_pins, machine_running, machine_of_table}
use Rattle.block_config.specs.Programs.{Loaded}
use Rattle.block_config.specs.Tables.{and_then}
use Rattle.block_config.proofs.Ranges.{goes_on, ok_same}

-- the parts of a machine
pub record MachineParts (machines : List (Option MachineKeys)) (loads : List Loaded) (t : Members) (m : MachineKeys) : Type 0 where
  pub run : RunKeys
  pub clock : ClockKeys
  pub pins : PinKeys
  pub flags : FlagKeys
  pub counts : CountKeys
  pub first : FirstKeys
  pub run_found : run_at machines loads t ≡ Ok run
  pub clock_found : clock_at t ≡ Ok clock
  pub pins_found : pins_at t ≡ Ok pins
  pub flags_found : flags_at t ≡ Ok flags
  pub counts_found : counts_at t ≡ Ok counts
  pub first_found : first_at t ≡ Ok first
  pub whole : machine_keys_of run clock pins flags counts first ≡ m

pub machine_parts : (machines : List (Option MachineKeys)) (loads : List Loaded) (t : Members) (m : MachineKeys)
    → machine_of_table machines loads t ≡ Ok m → MachineParts machines loads t m
machine_parts machines loads t m e =
    let run = goes_on (run_at machines loads t) (λ run. machine_running t run) m e in
    let clock = goes_on (clock_at t) (λ clock. and_then (pins_at t) (λ pins. machine_with_pins t run.value clock pins)) m run.rest in
    let pins = goes_on (pins_at t) (λ pins. machine_with_pins t run.value clock.value pins) m clock.rest in
    let flags = goes_on (flags_at t) (λ flags. and_then (counts_at t) (λ counts. and_then (first_at t) (λ first.
    Ok (machine_keys_of run.value clock.value pins.value flags counts first)))) m pins.rest in
    let counts = goes_on (counts_at t) (λ counts. and_then (first_at t) (λ first.
    Ok (machine_keys_of run.value clock.value pins.value flags.value counts first))) m flags.rest in
    let first = goes_on (first_at t) (λ first. Ok (machine_keys_of run.value clock.value pins.value flags.value counts.value first)) m counts.rest in
    record {
      run = run.value;
      clock = clock.value;
      pins = pins.value;
      flags = flags.value;
      counts = counts.value;
      first = first.value;
      run_found = run.found;
      clock_found = clock.found;
      pins_found = pins.found;
      flags_found = flags.found;
      counts_found = counts.found;
      first_found = first.found;
      whole = ok_same (machine_keys_of run.value clock.value pins.value flags.value counts.value first.value) m first.rest;
    }
