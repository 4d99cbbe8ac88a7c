use Rattle.std.proofs.Common.{ap, arith}
use Rattle.block_core.specs.Twin.{WorkedTwin, TwinRun}
use Rattle.block_core.proofs.Steps.{twin_next_with, twin_uses_with, twins_next}
use Rattle.block_core.proofs.twin.Twin.clock.Goals as goal

pub step-other-requires : goal.step-other-requires
step-other-requires g c =
    let clock = ap (λ (w : WorkedTwin). w.twin.first.clock) c.self.view_is in
    omega (arith, clock, c.self.invariant.same, c.requires)

pub invariant_of-self : goal.invariant_of-self
invariant_of-self g c =
    let b = c.self.inside in
    let t : TwinRun = record { own = b.own; first = b.first; second = b.second } in
    twins_next c.args.first.now c.args.second.now t c.pads-pad.result b.calls _ _ c.self.invariant c.step-one.ensures.run c.step-other.ensures.run

pub returns-clause-twin : goal.returns-clause-twin
returns-clause-twin g c =
    twin_next_with c.args.first.now c.args.second.now _ c.args.self.now.twin c.pads-pad.result _ _ (ap (λ (w : WorkedTwin). w.twin) c.self.view_is) c.pads-pad.ensures c.step-one.ensures.run c.step-other.ensures.run

pub returns-clause-used : goal.returns-clause-used
returns-clause-used g c =
    twin_uses_with c.args.first.now c.args.second.now _ c.args.self.now.twin c.pads-pad.result c.step-one.result c.step-other.result (ap (λ (w : WorkedTwin). w.twin) c.self.view_is) c.pads-pad.ensures c.step-one.ensures.used c.step-other.ensures.used
