use Rattle.std.proofs.Common.{◌≡◌, ap, ◌∙◌}
use Rattle.dreq_pacing.specs.declared.due.Due.{Due}
use Rattle.dreq_pacing.specs.declared.due.Requests.{Requests}
use Rattle.dreq_pacing.specs.Ports.{Ports, due_in, transfers_after}
use Rattle.block_core.specs.Block.{Worked, next}
use Rattle.block_core.specs.Conduct.{conduct_after}
use Rattle.block_core.specs.Shown.{requests_of}
use Rattle.idle_engine.proofs.ConductKind.{conduct-asked}
use Rattle.idle_engine.proofs.conduct.ConductedRunsConductHostPorts.asked_clock.Goals as goal

pub returns-clause-run : goal.returns-clause-run
returns-clause-run g c =
    let r = c.args.self.now.worked.run in
    let lines = c.args.ports.now.lines in
    let t = c.args.ports.now.transfers in
    let asks : c.requests.result ≡ requests_of r.state = c.requests.ensures ∙ ap (λ (b : Worked). requests_of b.run.state) c.block.ensures in
    let due = c.at-due.ensures.due ∙ ap (λ (q : Requests). due_in lines c.args.clock q t) asks in
    conduct-asked lines (record { run = r; transfers = t }) c.args.self.now.last _ c.args.clock _ _ c.requires.clock
    (c.clock.ensures.run ∙ ap (λ (d : Due). next d r) due)
    (ap (λ (p : Ports). p.transfers) c.at-due.ensures.after ∙ ap (λ (q : Requests). transfers_after lines c.args.clock q t) asks)
    (c.clock.ensures.last ∙ ap (λ (d : Due). conduct_after d r c.args.self.now.last) due)
