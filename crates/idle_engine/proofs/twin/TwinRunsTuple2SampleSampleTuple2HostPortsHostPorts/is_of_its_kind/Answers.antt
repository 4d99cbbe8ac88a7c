use Rattle.std.proofs.Common.{arith}
use Rattle.std.proofs.lemmas.Bool.{or_parts}
use Rattle.dreq_pacing.specs.Ports.{acts_in}
use Rattle.block_core.specs.Shown.{requests_of}
use Rattle.idle_engine.proofs.OneKind.{none_before}
use Rattle.idle_engine.proofs.TwinKind.{twin-kind}
use Rattle.idle_engine.proofs.twin.TwinRunsTuple2SampleSampleTuple2HostPortsHostPorts.is_of_its_kind.Goals as goal

pub returns-clause-kind : goal.returns-clause-kind
returns-clause-kind g c =
    twin-kind c.a_clock_without_acts_does_nothing.ensures.due c.a_clock_without_acts_does_nothing.ensures.transfers

pub returns-clause-waits : goal.returns-clause-waits
returns-clause-waits g c = λ p h n m ready le rests. (
  omega (arith, ready.0),
  omega (arith, ready.1),
  none_before p.0.lines (requests_of h.first.run.state) h.first.transfers p.0.next n m ready.2
      (λ k from below. (or_parts (acts_in p.0.lines k (requests_of h.first.run.state) h.first.transfers) (acts_in p.1.lines k (requests_of h.second.run.state) h.second.transfers) (rests k from below)).0),
  none_before p.1.lines (requests_of h.second.run.state) h.second.transfers p.1.next n m ready.3
      (λ k from below. (or_parts (acts_in p.0.lines k (requests_of h.first.run.state) h.first.transfers) (acts_in p.1.lines k (requests_of h.second.run.state) h.second.transfers) (rests k from below)).1),
)
