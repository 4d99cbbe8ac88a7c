-- A clock without a tick, and one whose tick is simple.
use Rattle.std.proofs.Common.{sym, ◌∙◌}
use Rattle.block_core.proofs.SimpleClocks.{rests_simply, ticks_simply}
use Rattle.block_core.proofs.slot.Slot.simple_clock.Goals as goal

pub returns-then-not-has_tick_by-clause-done : goal.returns-then-not-has_tick_by-clause-done
returns-then-not-has_tick_by-clause-done g c = λ done.
    rests_simply c.a_quiet_clock_changes_nothing.ensures c.args.view.now _ _ c.step.new.self c.args.outputs.now c.self.view_is (sym c.has_tick_by.ensures ∙ c.if-not-has_tick_by.true) c.step.ensures

pub returns-clause-done : goal.returns-clause-done
returns-clause-done g c = λ done.
    ticks_simply c.a_quiet_clock_changes_nothing.ensures c.args.view.now _ _ c.simple_tick-tried.new.self c.step_from_tick.new.self c.args.outputs.now c.simple_tick-tried.new.outputs c.self.view_is
    (sym c.has_tick_by.ensures ∙ c.if-not-has_tick_by.false) (c.simple_tick-tried.ensures.done (sym c.is_done.ensures ∙ c.if-not-is_done.false)) c.step_from_tick.ensures
