use Rattle.std.proofs.Common.{◌<◌, ◌≤◌, arith}
use Rattle.dreq_pacing.specs.Lines.{access_of}
use Rattle.dreq_pacing.proofs.Drafts.{access_none}
use Rattle.dreq_pacing.proofs.draft.StimulusDraft.has_access.Goals as goal

pub returns-else-clock-self : goal.returns-else-clock-self
returns-else-clock-self c =
    let p = c.self.inside in
    let le : p.clock ≤ c.args.clock = rw (← c.self.view_is) at c.requires.in_order in
    let lt : p.clock < c.args.clock = omega arith in
    rw (← c.self.view_is) (access_none (access_of c.args.act.now) p.lines.items p.clock c.args.clock lt c.self.invariant.latest)
