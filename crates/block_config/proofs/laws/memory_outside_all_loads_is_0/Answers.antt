use Rattle.std.proofs.Common.{◌∙◌}
use Rattle.block_config.specs.Memory.{no_words}
use Rattle.block_config.proofs.Outside.{memory_outside, nothing_there}
use Rattle.block_config.proofs.laws.memory_outside_all_loads_is_0.Goals as goal

pub returns : goal.returns
returns c = λ loads address within free. memory_outside loads no_words address within free ∙ nothing_there address
