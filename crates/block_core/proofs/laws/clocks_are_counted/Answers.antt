use Rattle.block_core.proofs.Runs.{clock-run_from, memory-run_from}
use Rattle.block_core.proofs.laws.clocks_are_counted.Goals as goal

pub returns : goal.returns
returns c = record { clock = clock-run_from; memory = memory-run_from }
