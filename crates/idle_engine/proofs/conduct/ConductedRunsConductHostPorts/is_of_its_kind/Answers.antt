use Rattle.std.proofs.Common.{arith}
use Rattle.block_core.specs.Shown.{requests_of}
use Rattle.idle_engine.proofs.ConductKind.{conduct-kind}
use Rattle.idle_engine.proofs.OneKind.{none_before}
use Rattle.idle_engine.proofs.conduct.ConductedRunsConductHostPorts.is_of_its_kind.Goals as goal

pub returns-clause-kind : goal.returns-clause-kind
returns-clause-kind g c =
    conduct-kind c.a_clock_without_acts_does_nothing.ensures.due c.a_clock_without_acts_does_nothing.ensures.transfers

pub returns-clause-waits : goal.returns-clause-waits
returns-clause-waits g c = λ p h n m ready le rests. (
  omega (arith, ready.0),
  none_before p.lines (requests_of h.hosted.run.state) h.hosted.transfers p.next n m ready.1 rests,
)
