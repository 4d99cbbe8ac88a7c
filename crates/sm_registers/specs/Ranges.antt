-- What a machine keeps of its registers besides what their types say.
--   IsPlaced         PC, counts and delay in their ranges
use Rattle.std.specs.Prelude.{◌<◌, ◌≤◌}
use Rattle.sm_registers.specs.declared.registers.Registers.{Registers}

-- PC is an address, the counts count the bits of a word, the delay is one of five bits
pub record IsPlaced (r : Registers) : Type 0 where
  pub pc : r.pc < 32
  pub in_count : r.in_count ≤ 32
  pub out_count : r.out_count ≤ 32
  pub delay : r.delay < 32
