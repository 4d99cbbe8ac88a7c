use Rattle.std.proofs.Common.{◌≡◌, subst}
use Rattle.block_core.specs.Block.{Run}
use Rattle.block_core.specs.Shown.{sample_of}
use Rattle.block_core.proofs.running.Running.view.Goals as goal

pub returns : goal.returns
returns g c = subst (λ (r : Run). c.self.inside.sample ≡ sample_of r.state) c.self.view_is c.self.invariant.1.is
