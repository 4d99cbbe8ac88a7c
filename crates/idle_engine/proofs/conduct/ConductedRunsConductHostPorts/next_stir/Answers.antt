use Rattle.std.proofs.Common.{arith, subst}
use Rattle.dreq_pacing.specs.Due.{quiet}
use Rattle.dreq_pacing.specs.Ports.{IsFirst}
use Rattle.block_core.specs.Block.{Worked, run_from}
use Rattle.block_core.specs.Stirring.{moves_on}
use Rattle.idle_engine.specs.OneConduct.{Conducting, one_conduct}
use Rattle.idle_engine.proofs.AfterLeaps.{until_later}
use Rattle.idle_engine.proofs.ConductKind.{moves_from}
use Rattle.idle_engine.proofs.conduct.ConductedRunsConductHostPorts.next_stir.Goals as goal

pub returns : goal.returns
returns g c =
    let h : Conducting = record { hosted = record { run = c.args.self.now.worked.run; transfers = c.args._ports.now.transfers }; last = c.args.self.now.last } in
    let first = subst (λ (b : Worked). IsFirst (λ n. moves_on quiet (run_from b.run (λ c. quiet) n)) 0 c.next_stir.result) c.block.ensures c.next_stir.ensures.first in
    let until = c.until.ensures (λ n. moves_on quiet (run_from c.args.self.now.worked.run (λ c. quiet) n)) 0 (omega arith) first in
    until_later _ (λ n. one_conduct.moves_on (one_conduct.quiet_from h n)) c.args.most 0 0 c.until.result until (moves_from h) (omega arith) until.ahead
