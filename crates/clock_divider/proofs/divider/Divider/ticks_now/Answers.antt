-- Less than a clock is left exactly in a tick.
use Rattle.std.proofs.Common.{sym}
use Rattle.clock_divider.proofs.TickLaws.{is_tick-from_left, IsTickClock-from_test, test-from_tick}
use Rattle.clock_divider.proofs.divider.Divider.ticks_now.Goals as goal

pub returns-clause-value : goal.returns-clause-value
returns-clause-value c =
    let d = c.self.inside in
    rw (← c.self.view_is) (sym (is_tick-from_left d.restarted d.period d.clock d.left c.self.invariant.begun c.self.invariant.next))

pub returns-clause-tick : goal.returns-clause-tick
returns-clause-tick c =
    let d = c.self.inside in
    rw (← c.self.view_is) (
      IsTickClock-from_test d.restarted d.period d.clock d.left c.self.invariant.begun c.self.invariant.next,
      test-from_tick d.restarted d.period d.clock d.left c.self.invariant.begun c.self.invariant.next,
    )
