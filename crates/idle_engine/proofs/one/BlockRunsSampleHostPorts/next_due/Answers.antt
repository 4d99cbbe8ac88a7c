use Rattle.std.proofs.Common.{subst}
use Rattle.dreq_pacing.specs.declared.due.Requests.{Requests}
use Rattle.dreq_pacing.specs.Ports.{acts_in}
use Rattle.idle_engine.specs.Kinds.{IsUntil}
use Rattle.idle_engine.proofs.one.BlockRunsSampleHostPorts.next_due.Goals as goal

pub returns : goal.returns
returns g c =
    let lines = c.args.ports.now.lines in
    let t = c.args.ports.now.transfers in
    subst (λ (q : Requests). IsUntil (λ n. acts_in lines n q t) c.args.end c.args.clock c.until.result) c.requests.ensures
    (c.until.ensures (λ n. acts_in lines n c.requests.result t) c.args.clock c.requires.ahead c.next_due.ensures)
