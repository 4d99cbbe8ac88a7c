use Rattle.std.proofs.Common.{◌||◌, sym, ap, ◌∙◌}
use Rattle.std.specs.List.{list_any}
use Rattle.block_core.specs.Stirring.{begins_now}
use Rattle.block_core.specs.Twin.{WorkedTwin}
use Rattle.block_core.proofs.Beginning.{twin_by_pads, twin_by_machines}
use Rattle.block_core.proofs.twin.Twin.begins_or_changes.Goals as goal

pub returns-then-pads_change : goal.returns-then-pads_change
returns-then-pads_change g c =
    twin_by_pads c.args.self.now.twin c.pads-pad.result c.pads-pad.ensures (sym c.pads_change.ensures ∙ c.if-pads_change.true)

pub returns : goal.returns
returns g c =
    let b = c.self.inside in
    ap (λ x. x || c.begins_now.result) c.begins_now-first.ensures
    ∙ ap (λ x. list_any begins_now b.first.state.machines || x) c.begins_now.ensures
    ∙ ap (λ (w : WorkedTwin). list_any begins_now w.twin.first.state.machines || list_any begins_now w.twin.second.state.machines) c.self.view_is
    ∙ twin_by_machines c.args.self.now.twin c.pads-pad.result c.pads-pad.ensures (sym c.pads_change.ensures ∙ c.if-pads_change.false)
