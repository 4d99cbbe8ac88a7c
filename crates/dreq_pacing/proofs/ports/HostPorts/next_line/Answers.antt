-- The first line that is left is the next.
use Rattle.std.proofs.Common.{◌≤◌, arith}
use Rattle.dreq_pacing.specs.Lines.{NoneBetween}
use Rattle.dreq_pacing.proofs.Rests.{next_line-found}
use Rattle.dreq_pacing.proofs.ports.HostPorts.next_line.Goals as goal

pub returns-in-len1-up : goal.returns-in-len1-up
returns-in-len1-up c =
    let p = c.self.inside in
    let le : p.next ≤ c.args.clock = rw (← c.self.view_is) at c.requires.next in
    let none : NoneBetween p.lines.now p.next c.args.clock = rw (← c.self.view_is) at c.requires.lines in
    rw (← c.self.view_is) (next_line-found p.lines.now p.next c.args.clock p.rest.now c.line-item.result c.self.invariant le none (omega arith) c.line-item.is)
