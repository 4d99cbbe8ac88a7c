-- What is left after the clocks, and that a leap is as many steps.
use Rattle.std.proofs.Common.{◌+◌, ◌^◌, ◌≤◌, sym}
use Rattle.clock_divider.proofs.Counts.{IsRunning-leapt, after_steps-is}
use Rattle.clock_divider.proofs.divider.Divider.leap.Goals as goal

pub invariant_of-self : goal.invariant_of-self
invariant_of-self c =
    let d = c.self.inside in
    let room : d.clock + c.args.n ≤ 2 ^ 40 = rw (← c.self.view_is) at c.requires in
    rw (c.from-period.ensures, c.from.ensures) (IsRunning-leapt d.clock d.restarted d.period d.left c.args.n c.self.invariant room)

pub returns-clause-steps : goal.returns-clause-steps
returns-clause-steps c = rw (← c.self.view_is) (sym (after_steps-is c.args.n _))
