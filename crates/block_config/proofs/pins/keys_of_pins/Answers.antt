use Rattle.std.proofs.Common.{rules}
use Rattle.block_config.proofs.pins.keys_of_pins.Goals as goal

pub returns-in-First : goal.returns-in-First
returns-in-First c = search rules
