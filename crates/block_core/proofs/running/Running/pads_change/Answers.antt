use Rattle.std.proofs.Common.{◌≡◌, not, subst}
use Rattle.block_core.specs.Block.{Run}
use Rattle.block_core.specs.Stirring.{pads_change_over}
use Rattle.block_core.proofs.LeaptPlaces.{not_settled}
use Rattle.block_core.proofs.running.Running.pads_change.Goals as goal

pub returns : goal.returns
returns g c =
    let b = c.self.inside in
    subst (λ (r : Run). not c.settled.result ≡ pads_change_over c.args.pad r) c.self.view_is (not_settled c.settled.result c.args.pad b.shared.sync c.settled.ensures)
