-- The ticks are the periods that end within the clocks.
use Rattle.std.proofs.Common.{sym}
use Rattle.clock_divider.proofs.Counts.{tick_count-within, within-le}
use Rattle.clock_divider.proofs.divider.Divider.ticks_within.Goals as goal

pub returns-clause-count : goal.returns-clause-count
returns-clause-count c =
    let d = c.self.inside in
    rw (c.from-period.ensures, c.from.ensures, ← c.self.view_is) (sym (tick_count-within d.clock d.restarted d.period d.left c.args.n c.self.invariant))

pub returns-clause-bound : goal.returns-clause-bound
returns-clause-bound c =
    let d = c.self.inside in
    rw (c.from-period.ensures, c.from.ensures) (within-le d.period c.args.n d.left c.self.invariant.shortest c.self.invariant.next.below)
