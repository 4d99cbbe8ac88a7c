use Rattle.std.proofs.Common.{◌≡◌, ap, ◌∙◌}
use Rattle.dreq_pacing.specs.declared.due.Due.{Due}
use Rattle.dreq_pacing.specs.declared.due.Requests.{Requests}
use Rattle.dreq_pacing.specs.Ports.{Ports, due_in, transfers_after}
use Rattle.block_core.specs.Shown.{requests_of}
use Rattle.block_core.specs.Twin.{twin_next}
use Rattle.idle_engine.proofs.TwinKind.{asked-next}
use Rattle.idle_engine.proofs.twin.TwinRunsTuple2SampleSampleTuple2HostPortsHostPorts.asked_clock.Goals as goal

pub returns-clause-run : goal.returns-clause-run
returns-clause-run g c =
    let t = c.args.self.now.twin in
    let p = c.args.ports.now in
    let n = c.args.clock in
    let asks_first : c.requests.result.0 ≡ requests_of t.first.state = ap (λ (q : Requests × Requests). q.0) c.requests.ensures in
    let asks_second : c.requests.result.1 ≡ requests_of t.second.state = ap (λ (q : Requests × Requests). q.1) c.requests.ensures in
    asked-next (p.0.lines, p.1.lines)
    (record { own = t.own; first = record { run = t.first; transfers = p.0.transfers }; second = record { run = t.second; transfers = p.1.transfers } })
    n _ _ _ c.requires.clock
    (c.clock.ensures.twin
    ∙ ap (λ (d : Due). twin_next d c.at-second.result t) (c.at-first.ensures.due ∙ ap (λ (q : Requests). due_in p.0.lines n q p.0.transfers) asks_first)
    ∙ ap (λ (d : Due). twin_next (due_in p.0.lines n (requests_of t.first.state) p.0.transfers) d t) (c.at-second.ensures.due ∙ ap (λ (q : Requests). due_in p.1.lines n q p.1.transfers) asks_second))
    (ap (λ (p : Ports). p.transfers) c.at-first.ensures.after ∙ ap (λ (q : Requests). transfers_after p.0.lines n q p.0.transfers) asks_first)
    (ap (λ (p : Ports). p.transfers) c.at-second.ensures.after ∙ ap (λ (q : Requests). transfers_after p.1.lines n q p.1.transfers) asks_second)
