use Rattle.std.proofs.Common.{arith}
use Rattle.dreq_pacing.specs.Due.{quiet}
use Rattle.block_core.specs.Twin.{twin_from, twin_moves_on}
use Rattle.idle_engine.proofs.twin.TwinRunsTuple2SampleSampleTuple2HostPortsHostPorts.next_stir.Goals as goal

pub returns : goal.returns
returns g c =
    c.until.ensures (λ n. twin_moves_on quiet quiet (twin_from c.args.self.now.twin (λ c. quiet) (λ c. quiet) n)) 0 (omega arith) c.next_stir.ensures.first
