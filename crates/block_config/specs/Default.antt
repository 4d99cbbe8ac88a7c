-- What a block starts from without a configuration (choice of this profile).
--   machine_keys     a machine that runs a program loaded at an address, with all else at its default
--   default_block    what the setup says: the first program on machine 0
--   default_setup_of the setup, or its fault
use Rattle.std.specs.Prelude.{ℕ, ◌+◌, true, false, if◌then◌else◌, unwrap_or, Option, Some, None, List, [], ◌∷◌, Result, Ok, codes}
use Rattle.pio_assemble.specs.Program.{Assembled}
use Rattle.block_config.specs.declared.fault.ConfigKind.TheVariants.{NoProgram, DoesNotFit}
use Rattle.pin_matrix.specs.declared.setup.Setup.{Setup}
use Rattle.answers.specs.Answers.{made}
use Rattle.block_config.specs.Answer.{ConfigRefusal, refused}
use Rattle.setup_keys.specs.Block.{MachineKeys, BlockKeys}
use Rattle.block_config.specs.SetupOf.{setup_of}
use Rattle.block_config.specs.Memory.{fits_at, loaded, no_words}

-- A machine with all at its default: it starts at the program's first word and wraps as the program says, with no word pending
-- and an empty OSR, ticks in each clock, sets pins 0 to 4, side-sets as many pins from 0 on as the program has bits, and shifts
-- whole words to the right.
abbrev pub machine_keys : ℕ → ℕ → Assembled → MachineKeys
machine_keys id address p = record {
  id = id;
  start = address;
  x = 0;
  y = 0;
  isr = 0;
  osr = 0;
  isr_count = 0;
  osr_count = 32;
  pending = None;
  int = 1;
  frac = 0;
  side_rule = p.side;
  wrap_bottom = address + p.wrap_bottom;
  wrap_top = address + p.wrap_top;
  in_base = 0;
  jmp_pin = 0;
  out_base = 0;
  out_count = 0;
  set_base = 0;
  set_count = 5;
  side_base = 0;
  side_count = p.side.bits;
  in_right = true;
  out_right = true;
  autopush = false;
  autopull = false;
  push_threshold = 32;
  pull_threshold = 32;
  join_tx = false;
  join_rx = false;
  status_rx = false;
  status_n = 0;
}

-- a block without spans whose pins are low, inputs and synchronised
abbrev pub quiet_block : List ℕ → List (Option MachineKeys) → BlockKeys
quiet_block memory machines = record { memory = memory; machines = machines; high = 0; level = 0; out = 0; bypass = 0; spans = [] }

-- a program at its origin, or at 0, on machine 0; it has to fit there
abbrev pub block_of : Assembled → Result BlockKeys ConfigRefusal
block_of p =
    let address : ℕ = unwrap_or p.origin 0 in
    if fits_at address p.words
    then Ok (quiet_block (loaded no_words address p.words) (Some (machine_keys 0 address p) ∷ None ∷ None ∷ None ∷ []))
    else refused (codes "default") DoesNotFit

-- the first program of the source
abbrev pub default_block : List Assembled → Result BlockKeys ConfigRefusal
default_block [] = refused (codes "default") NoProgram
default_block (p ∷ ps) = block_of p

-- the setup that says it
abbrev pub default_setup_of : List Assembled → Result Setup ConfigRefusal
default_setup_of programs = made setup_of (default_block programs)
