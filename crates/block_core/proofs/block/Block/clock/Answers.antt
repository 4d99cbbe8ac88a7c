use Rattle.std.proofs.Common.{ap, subst, ◌∙◌, arith}
use Rattle.block_core.specs.Block.{Run, Worked, next, uses_fifos_in, uses_fifos_over, wanted_in, wanted_over, level_writes, direction_writes, TakesLastWrites}
use Rattle.block_core.proofs.Steps.{next_with}
use Rattle.block_core.proofs.block.Block.clock.Goals as goal

pub invariant_of-self : goal.invariant_of-self
invariant_of-self g c =
    let clock = ap (λ (r : Run). r.clock) c.step-used.ensures.run in
    (omega (arith, clock, c.self.invariant.0), c.pads-self-inside.ensures)

pub returns-clause-run : goal.returns-clause-run
returns-clause-run g c =
    next_with c.args.due.now c.self.inside.running c.pads-pad.result _ c.pads-pad.ensures c.step-used.ensures.run
    ∙ ap (λ (w : Worked). next c.args.due.now w.run) c.self.view_is

pub returns-clause-used : goal.returns-clause-used
returns-clause-used g c =
    c.step-used.ensures.used
    ∙ ap (λ pad. uses_fifos_over pad c.args.due.now c.self.inside.running) c.pads-pad.ensures
    ∙ ap (λ (w : Worked). uses_fifos_in c.args.due.now w.run) c.self.view_is

pub returns-clause-levels : goal.returns-clause-levels
returns-clause-levels g c =
    subst (λ (w : Worked). TakesLastWrites w.run.state.levels c.step-used.new.self.state.levels (level_writes (wanted_in c.args.due.now w.run))) c.self.view_is
    (subst (λ pad. TakesLastWrites c.self.inside.running.state.levels c.step-used.new.self.state.levels (level_writes (wanted_over pad c.args.due.now c.self.inside.running))) c.pads-pad.ensures c.step-used.ensures.levels)

pub returns-clause-directions : goal.returns-clause-directions
returns-clause-directions g c =
    subst (λ (w : Worked). TakesLastWrites w.run.state.directions c.step-used.new.self.state.directions (direction_writes (wanted_in c.args.due.now w.run))) c.self.view_is
    (subst (λ pad. TakesLastWrites c.self.inside.running.state.directions c.step-used.new.self.state.directions (direction_writes (wanted_over pad c.args.due.now c.self.inside.running))) c.pads-pad.ensures c.step-used.ensures.directions)
