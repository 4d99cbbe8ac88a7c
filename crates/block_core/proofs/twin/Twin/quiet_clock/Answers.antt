use Rattle.std.proofs.Common.{ap, arith, rules}
use Rattle.dreq_pacing.specs.Due.{quiet}
use Rattle.block_core.specs.Twin.{WorkedTwin, TwinRun}
use Rattle.block_core.proofs.Steps.{twin_next_with, twin_uses_with, twins_next}
use Rattle.block_core.proofs.twin.Twin.quiet_clock.Goals as goal

pub quiet_step-other-requires : goal.quiet_step-other-requires
quiet_step-other-requires g c =
    let clock = ap (λ (w : WorkedTwin). w.twin.first.clock) c.self.view_is in
    omega (arith, clock, c.self.invariant.same, c.requires)

pub invariant_of-self : goal.invariant_of-self
invariant_of-self g c =
    let b = c.self.inside in
    let t : TwinRun = record { own = b.own; first = b.first; second = b.second } in
    twins_next quiet quiet t c.pads-pad.result b.calls _ _ c.self.invariant c.quiet_step-one.ensures.run c.quiet_step-other.ensures.run

pub returns-clause-twin : goal.returns-clause-twin
returns-clause-twin g c =
    twin_next_with quiet quiet _ c.args.self.now.twin c.pads-pad.result _ _ (ap (λ (w : WorkedTwin). w.twin) c.self.view_is) c.pads-pad.ensures c.quiet_step-one.ensures.run c.quiet_step-other.ensures.run

pub returns-clause-fifos : goal.returns-clause-fifos
returns-clause-fifos g c =
    twin_uses_with quiet quiet _ c.args.self.now.twin c.pads-pad.result c.quiet_step-one.result.fifos c.quiet_step-other.result.fifos (ap (λ (w : WorkedTwin). w.twin) c.self.view_is) c.pads-pad.ensures c.quiet_step-one.ensures.fifos c.quiet_step-other.ensures.fifos

-- as the search finds it; a wrong body is refused at once
pub returns-clause-second : goal.returns-clause-second
returns-clause-second g c = search rules steps 300000
