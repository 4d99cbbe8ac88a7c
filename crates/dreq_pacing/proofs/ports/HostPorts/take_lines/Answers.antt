-- The lines at the head are those of the clock, and the rest is the rest one clock on.
use Rattle.std.proofs.Common.{◌≤◌, sym, ◌∙◌}
use Rattle.std.proofs.lemmas.List.{take_rest}
use Rattle.dreq_pacing.specs.Lines.{NoneBetween}
use Rattle.dreq_pacing.proofs.Rests.{turn, ahead-moved, rest_on}
use Rattle.dreq_pacing.proofs.ports.HostPorts.take_lines.Goals as goal

pub invariant_of-self : goal.invariant_of-self
invariant_of-self c =
    let p = c.self.inside in
    let le : p.next ≤ c.args.clock = rw (← c.self.view_is) at c.requires.next in
    let none : NoneBetween p.lines.now p.next c.args.clock = rw (← c.self.view_is) at c.requires.lines in
    let t = turn c.args.clock p.rest.now c.self.invariant.schedule (ahead-moved p.lines.now p.next c.args.clock p.rest.now c.self.invariant le none) in
    rw (take_rest, c.leading-number.ensures.number) (rest_on p.lines.now p.next c.args.clock p.rest.now _ c.self.invariant le t)

pub returns-clause-lines : goal.returns-clause-lines
returns-clause-lines c =
    let p = c.self.inside in
    let le : p.next ≤ c.args.clock = rw (← c.self.view_is) at c.requires.next in
    let none : NoneBetween p.lines.now p.next c.args.clock = rw (← c.self.view_is) at c.requires.lines in
    let t = turn c.args.clock p.rest.now c.self.invariant.schedule (ahead-moved p.lines.now p.next c.args.clock p.rest.now c.self.invariant le none) in
    rw (c.leading-number.ensures.number, ← c.self.view_is) (sym (c.self.invariant.same c.args.clock le ∙ t.here))

pub returns-clause-fine : goal.returns-clause-fine
returns-clause-fine c =
    let p = c.self.inside in
    let le : p.next ≤ c.args.clock = rw (← c.self.view_is) at c.requires.next in
    let none : NoneBetween p.lines.now p.next c.args.clock = rw (← c.self.view_is) at c.requires.lines in
    let t = turn c.args.clock p.rest.now c.self.invariant.schedule (ahead-moved p.lines.now p.next c.args.clock p.rest.now c.self.invariant le none) in
    rw c.leading-number.ensures.number t.fine
