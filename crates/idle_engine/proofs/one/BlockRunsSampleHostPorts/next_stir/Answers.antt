use Rattle.std.proofs.Common.{arith}
use Rattle.dreq_pacing.specs.Due.{quiet}
use Rattle.block_core.specs.Block.{run_from}
use Rattle.block_core.specs.Stirring.{moves_on}
use Rattle.idle_engine.proofs.one.BlockRunsSampleHostPorts.next_stir.Goals as goal

pub returns : goal.returns
returns g c =
    c.until.ensures (λ n. moves_on quiet (run_from c.args.self.now.run (λ c. quiet) n)) 0 (omega arith) c.next_stir.ensures.first
