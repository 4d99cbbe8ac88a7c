use Rattle.std.proofs.Common.{◌≡◌, ℕ, ◌<◌, false, sym, subst}
use Rattle.dreq_pacing.specs.Due.{quiet}
use Rattle.block_core.specs.Block.{run_from}
use Rattle.block_core.specs.Conduct.{Told, is_noted}
use Rattle.block_core.specs.Stirring.{moves_on}
use Rattle.block_core.proofs.ClocksOfNote.{none_noted}
use Rattle.block_core.proofs.conduct.Conducted.leap.Goals as goal

pub returns-clause-none : goal.returns-clause-none
returns-clause-none g c =
    let calm = subst (λ (t : Told). (k : ℕ) → k < c.args.clocks → moves_on quiet (run_from t.worked.run (λ c. quiet) k) ≡ false) (sym c.self.view_is) c.requires.calm in
    subst (λ (t : Told). (k : ℕ) → k < c.args.clocks → is_noted quiet (run_from t.worked.run (λ c. quiet) k) ≡ false) c.self.view_is
    (none_noted c.self.inside.block.run c.args.clocks calm c.leap.ensures.rests)
