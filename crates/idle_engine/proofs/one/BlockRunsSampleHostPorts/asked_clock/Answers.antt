use Rattle.std.proofs.Common.{ap, ◌∙◌}
use Rattle.dreq_pacing.specs.declared.due.Due.{Due}
use Rattle.dreq_pacing.specs.declared.due.Requests.{Requests}
use Rattle.dreq_pacing.specs.Ports.{Ports, due_in, transfers_after}
use Rattle.block_core.specs.Block.{next}
use Rattle.idle_engine.proofs.OneKind.{asked-next}
use Rattle.idle_engine.proofs.one.BlockRunsSampleHostPorts.asked_clock.Goals as goal

pub returns-clause-run : goal.returns-clause-run
returns-clause-run g c =
    let r = c.args.self.now.run in
    let lines = c.args.ports.now.lines in
    let t = c.args.ports.now.transfers in
    asked-next lines (record { run = r; transfers = t }) c.args.clock _ _ c.requires.clock
    (c.clock.ensures.run ∙ ap (λ (d : Due). next d r) (c.at-due.ensures.due ∙ ap (λ (q : Requests). due_in lines c.args.clock q t) c.requests.ensures))
    (ap (λ (p : Ports). p.transfers) c.at-due.ensures.after ∙ ap (λ (q : Requests). transfers_after lines c.args.clock q t) c.requests.ensures)
