use Rattle.std.proofs.Common.{ℕ, ◌+◌, ap, ◌∙◌}
use Rattle.block_core.specs.Block.{Run}
use Rattle.block_core.specs.Conduct.{Told}
use Rattle.block_core.proofs.ClocksOfNote.{after-note, clock_next}
use Rattle.block_core.proofs.conduct.Conducted.clock.Goals as goal

pub told-noted-requires-clause-clock : goal.told-noted-requires-clause-clock
told-noted-requires-clause-clock g c =
    ap (λ (r : Run). r.clock) c.clock.ensures.run
    ∙ clock_next c.args.due.now c.self.inside.block.run
    ∙ ap (λ (k : ℕ). k + 1) (ap (λ (t : Told). t.worked.run.clock) c.self.view_is ∙ c.requires.clock)

pub returns-clause-last : goal.returns-clause-last
returns-clause-last g c =
    (after-note c.args.due.now _ _ _ _ _ _ _ _ _ c.self.view_is c.requires.clock c.pins-level.ensures c.standings-before.ensures
    (ap (λ (r : Run). r.state) c.clock.ensures.run) c.told-noted.ensures.noted c.told-noted.ensures.last).1
