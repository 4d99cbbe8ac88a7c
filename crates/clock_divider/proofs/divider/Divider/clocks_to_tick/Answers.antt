-- The clocks are those in which n periods more end.
use Rattle.std.proofs.Common.{◌<◌, arith}
use Rattle.clock_divider.proofs.TickLaws.{is_tick-iff}
use Rattle.clock_divider.proofs.Counts.{IsTickClock-at, tick_count-at, tick_time-le}
use Rattle.clock_divider.proofs.divider.Divider.clocks_to_tick.Goals as goal

pub returns-clause-tick : goal.returns-clause-tick
returns-clause-tick c =
    let d = c.self.inside in
    rw (c.from-period.ensures, c.from.ensures, ← c.self.view_is) (IsTickClock-at d.clock d.restarted d.period d.left c.args.n c.self.invariant)

pub returns-clause-test : goal.returns-clause-test
returns-clause-test c =
    let d = c.self.inside in
    let wide = c.self.invariant.shortest in
    let some : 0 < d.period = omega arith in
    let tick = IsTickClock-at d.clock d.restarted d.period d.left c.args.n c.self.invariant in
    rw (c.from-period.ensures, c.from.ensures, ← c.self.view_is) ((is_tick-iff d.restarted d.period _ some).1 tick)

pub returns-clause-count : goal.returns-clause-count
returns-clause-count c =
    let d = c.self.inside in
    rw (c.from-period.ensures, c.from.ensures, ← c.self.view_is) (tick_count-at d.clock d.restarted d.period d.left c.args.n c.self.invariant)

pub returns-clause-bound : goal.returns-clause-bound
returns-clause-bound c =
    let d = c.self.inside in
    rw (c.from-period.ensures, c.from.ensures) (tick_time-le d.period c.args.n d.left c.self.invariant.next.below c.self.invariant.longest)
