use Rattle.std.proofs.Common.{◌||◌, subst, sym}
use Rattle.dreq_pacing.specs.declared.due.Requests.{Requests}
use Rattle.dreq_pacing.specs.Ports.{acts_in}
use Rattle.idle_engine.specs.Kinds.{IsUntil}
use Rattle.idle_engine.proofs.TwinKind.{until_either}
use Rattle.idle_engine.proofs.twin.TwinRunsTuple2SampleSampleTuple2HostPortsHostPorts.next_due.Goals as goal

pub returns : goal.returns
returns g c =
    let p = c.args.ports.now in
    let q = c.requests.result in
    let first = c.until-first.ensures (λ n. acts_in p.0.lines n q.0 p.0.transfers) c.args.clock c.requires.ahead c.next_due.ensures in
    let second = c.until-second.ensures (λ n. acts_in p.1.lines n q.1 p.1.transfers) c.args.clock c.requires.ahead c.next_due-2.ensures in
    let both = until_either (λ n. acts_in p.0.lines n q.0 p.0.transfers) (λ n. acts_in p.1.lines n q.1 p.1.transfers) c.args.end c.args.clock c.until-first.result c.until-second.result first second in
    subst (λ (q : Requests × Requests). IsUntil (λ n. acts_in p.0.lines n q.0 p.0.transfers || acts_in p.1.lines n q.1 p.1.transfers) c.args.end c.args.clock c.min.result) c.requests.ensures
    (subst (IsUntil (λ n. acts_in p.0.lines n q.0 p.0.transfers || acts_in p.1.lines n q.1 p.1.transfers) c.args.end c.args.clock) (sym c.min.ensures) both)
