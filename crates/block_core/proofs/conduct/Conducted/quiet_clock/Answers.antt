use Rattle.std.proofs.Common.{ℕ, ◌+◌, ap, ◌∙◌}
use Rattle.dreq_pacing.specs.declared.due.Due.{Due}
use Rattle.dreq_pacing.specs.Due.{quiet}
use Rattle.block_core.specs.Block.{Run}
use Rattle.block_core.specs.Conduct.{Told, standings_in}
use Rattle.block_core.proofs.ClocksOfNote.{after-note, clock_next}
use Rattle.block_core.proofs.conduct.Conducted.quiet_clock.Goals as goal

pub told-noted-requires-clause-clock : goal.told-noted-requires-clause-clock
told-noted-requires-clause-clock g c =
    ap (λ (r : Run). r.clock) c.quiet_clock-news.ensures.run
    ∙ clock_next quiet c.self.inside.block.run
    ∙ ap (λ (k : ℕ). k + 1) (ap (λ (t : Told). t.worked.run.clock) c.self.view_is ∙ c.requires.clock)

pub returns-clause-last : goal.returns-clause-last
returns-clause-last g c =
    let stood = ap (λ (d : Due). standings_in d c.self.inside.block.run.state) c.quiet-quiet.ensures in
    (after-note quiet _ _ _ _ _ _ _ _ _ c.self.view_is c.requires.clock c.pins-level.ensures (c.standings-before.ensures ∙ stood)
    (ap (λ (r : Run). r.state) c.quiet_clock-news.ensures.run) c.told-noted.ensures.noted c.told-noted.ensures.last).1

pub returns-clause-shown : goal.returns-clause-shown
returns-clause-shown g c =
    let stood = ap (λ (d : Due). standings_in d c.self.inside.block.run.state) c.quiet-quiet.ensures in
    (after-note quiet _ _ _ _ _ _ _ _ _ c.self.view_is c.requires.clock c.pins-level.ensures (c.standings-before.ensures ∙ stood)
    (ap (λ (r : Run). r.state) c.quiet_clock-news.ensures.run) c.told-noted.ensures.noted c.told-noted.ensures.last).0
