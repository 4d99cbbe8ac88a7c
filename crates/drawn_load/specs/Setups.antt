-- The setup that the draws of a seed make (choice of this profile).
--   machine_keys  what the setup of a machine says by its row, with all else at its default
--   load_keys     what the setup of the block says
--   setup_of      the setup that says it
use Rattle.std.specs.Prelude.{ℕ, true, false, Some, None, [], ◌∷◌}
use Rattle.pin_matrix.specs.declared.setup.Setup.{Setup}
use Rattle.setup_keys.specs.Block.{MachineKeys, BlockKeys}
use Rattle.setup_keys.proofs.Making.{a_setup_says}
use Rattle.drawn_load.specs.Draws.{Letters, letters_of}
use Rattle.drawn_load.specs.NoSide.{no_side_set}
use Rattle.drawn_load.specs.Machines.{MachineRow, pulse_row, bits_row, reader_row, answer_row, memory_of}

-- A machine's setup by its row: it starts at its program's first word and wraps from the last one to it, without side-set. All
-- else is at its default.
abbrev pub machine_keys : MachineRow → MachineKeys
machine_keys r = record {
  id = r.id;
  start = r.first;
  x = 0;
  y = 0;
  isr = 0;
  osr = 0;
  isr_count = 0;
  osr_count = 32;
  pending = None;
  int = r.int;
  frac = r.frac;
  side_rule = no_side_set;
  wrap_bottom = r.first;
  wrap_top = r.last;
  in_base = r.in_base;
  jmp_pin = 0;
  out_base = r.out_base;
  out_count = r.out_count;
  set_base = r.set_base;
  set_count = r.set_count;
  side_base = 0;
  side_count = 0;
  in_right = true;
  out_right = true;
  autopush = r.autopush;
  autopull = r.autopull;
  push_threshold = 32;
  pull_threshold = 32;
  join_tx = false;
  join_rx = false;
  status_rx = false;
  status_n = 0;
}

-- The block: pins 0, 1 and 3 are outputs, all pins are low and synchronised, and no span is asked of it.
abbrev pub load_keys : Letters → BlockKeys
load_keys l = record {
  memory = memory_of l;
  machines = Some (machine_keys pulse_row) ∷ Some (machine_keys (bits_row l)) ∷ Some (machine_keys reader_row) ∷ Some (machine_keys answer_row) ∷ [];
  high = 0;
  level = 0;
  out = 11;
  bypass = 0;
  spans = [];
}

-- The setup of the load of a seed.
abbrev pub setup_of : ℕ → Setup
setup_of seed = (a_setup_says (load_keys (letters_of seed))).0
