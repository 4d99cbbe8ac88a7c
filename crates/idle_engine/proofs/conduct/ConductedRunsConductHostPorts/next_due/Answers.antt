use Rattle.std.proofs.Common.{◌≡◌, ap, ◌∙◌, subst}
use Rattle.dreq_pacing.specs.declared.due.Requests.{Requests}
use Rattle.dreq_pacing.specs.Ports.{acts_in}
use Rattle.block_core.specs.Block.{Worked}
use Rattle.block_core.specs.Shown.{requests_of}
use Rattle.idle_engine.specs.Kinds.{IsUntil}
use Rattle.idle_engine.proofs.conduct.ConductedRunsConductHostPorts.next_due.Goals as goal

pub returns : goal.returns
returns g c =
    let lines = c.args.ports.now.lines in
    let t = c.args.ports.now.transfers in
    let asks : c.requests.result ≡ requests_of c.args.self.now.worked.run.state = c.requests.ensures ∙ ap (λ (b : Worked). requests_of b.run.state) c.block.ensures in
    subst (λ (q : Requests). IsUntil (λ n. acts_in lines n q t) c.args.end c.args.clock c.until.result) asks
    (c.until.ensures (λ n. acts_in lines n c.requests.result t) c.args.clock c.requires.ahead c.next_due.ensures)
