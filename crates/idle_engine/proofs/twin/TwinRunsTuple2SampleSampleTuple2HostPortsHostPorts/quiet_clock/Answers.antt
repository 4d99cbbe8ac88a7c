use Rattle.std.proofs.Common.{refl}
use Rattle.idle_engine.proofs.TwinKind.{both-ask}
use Rattle.idle_engine.proofs.twin.TwinRunsTuple2SampleSampleTuple2HostPortsHostPorts.quiet_clock.Goals as goal

pub returns-clause-asks : goal.returns-clause-asks
returns-clause-asks g c = λ none l n.
    let news = c.quiet_clock.ensures in
    let ask = both-ask c.unused_fifos_ask_as_before_over_any_pads.ensures c.args.self.now.twin c.quiet_clock.new.self.twin (c.quiet_clock.result.0.fifos, c.quiet_clock.result.1.fifos) news.twin news.fifos none in
    rw (ask.0, ask.1) refl
