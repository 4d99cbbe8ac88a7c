-- The one setup that is a transmitter with a divider.
--   uart_rule        the side-set rule of the program
--   machine_keys     what the setup of its machine says
--   block_keys       what the setup of the block says
--   transmitter_of   the setup that says it
use Rattle.std.specs.Prelude.{ℕ, true, false, Some, None, [], ◌∷◌}
use Rattle.pio_encode.specs.declared.rule.SideRule.{SideRule}
use Rattle.pin_matrix.specs.declared.setup.Setup.{Setup}
use Rattle.setup_keys.specs.Block.{MachineKeys, BlockKeys}
use Rattle.setup_keys.proofs.Making.{a_rule_says, a_setup_says}
use Rattle.pio_uart.specs.Transmitter.{uart_memory}

-- `.side_set 1 opt`
abbrev pub uart_rule : SideRule
uart_rule = (a_rule_says (record { bits = 1; opt = true; pindirs = false })).0

-- the machine: OUT and side-set on pin 0, the program from address 0 to 3, and all else at its default
abbrev pub machine_keys : (int : ℕ) → MachineKeys
machine_keys int = record {
  id = 0;
  start = 0;
  x = 0;
  y = 0;
  isr = 0;
  osr = 0;
  isr_count = 0;
  osr_count = 32;
  pending = None;
  int = int;
  frac = 0;
  side_rule = uart_rule;
  wrap_bottom = 0;
  wrap_top = 3;
  in_base = 0;
  jmp_pin = 0;
  out_base = 0;
  out_count = 1;
  set_base = 0;
  set_count = 5;
  side_base = 0;
  side_count = 1;
  in_right = true;
  out_right = true;
  autopush = false;
  autopull = false;
  push_threshold = 32;
  pull_threshold = 32;
  join_tx = false;
  join_rx = false;
  status_rx = false;
  status_n = 0;
}

-- the block: this machine alone, and pin 0 an output that is high
abbrev pub block_keys : (int : ℕ) → BlockKeys
block_keys int = record {
  memory = uart_memory;
  machines = Some (machine_keys int) ∷ None ∷ None ∷ None ∷ [];
  high = 0;
  level = 1;
  out = 1;
  bypass = 0;
  spans = [];
}

-- The transmitter with this whole divider.
abbrev pub transmitter_of : (int : ℕ) → Setup
transmitter_of int = (a_setup_says (block_keys int)).0
