use Rattle.std.proofs.Common.{◌≡◌, true, [], ◌∷◌, subst}
use Rattle.std.specs.List.{list_any}
use Rattle.block_core.specs.Block.{Run}
use Rattle.block_core.specs.Stirring.{begins_now}
use Rattle.block_core.proofs.Beginning.{first_begins}
use Rattle.block_core.proofs.running.Running.is_ready.Goals as goal

pub returns : goal.returns
returns g c = λ h.
    subst (λ (r : Run). list_any begins_now r.state.machines ≡ true) c.self.view_is
    (first_begins c.self.inside.first (c.self.inside.second ∷ c.self.inside.third ∷ c.self.inside.fourth ∷ []) (c.self.invariant.2.ready h).1)
