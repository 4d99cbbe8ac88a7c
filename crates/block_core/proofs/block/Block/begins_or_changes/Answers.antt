use Rattle.std.proofs.Common.{◌≡◌, true, sym, ◌∙◌, subst}
use Rattle.block_core.specs.Block.{Worked}
use Rattle.block_core.specs.Stirring.{begins_or_changes}
use Rattle.block_core.proofs.Beginning.{by_beginning, by_pads, by_machines}
use Rattle.block_core.proofs.block.Block.begins_or_changes.Goals as goal

pub returns-then-is_ready : goal.returns-then-is_ready
returns-then-is_ready g c =
    subst (λ (w : Worked). true ≡ begins_or_changes w.run) c.self.view_is
    (by_beginning c.self.inside.running c.self.inside.pad c.self.invariant.1 (c.is_ready.ensures c.if-is_ready.true))

pub returns-then-pads_change : goal.returns-then-pads_change
returns-then-pads_change g c =
    subst (λ (w : Worked). true ≡ begins_or_changes w.run) c.self.view_is
    (by_pads c.self.inside.running c.self.inside.pad c.self.invariant.1 (sym c.pads_change.ensures ∙ c.if-pads_change.true))

pub returns : goal.returns
returns g c =
    subst (λ (w : Worked). c.begins_now.result ≡ begins_or_changes w.run) c.self.view_is
    (c.begins_now.ensures ∙ by_machines c.self.inside.running c.self.inside.pad c.self.invariant.1 (sym c.pads_change.ensures ∙ c.if-pads_change.false))
