use Rattle.std.proofs.Common.{[], ◌∷◌, ap, ◌∙◌}
use Rattle.block_core.specs.Leaps.{leapt, leapt_place}
use Rattle.block_core.proofs.LeaptPlaces.{are_calm, in_step_leapt, leapt_run}
use Rattle.block_core.proofs.Showing.{sample_leapt}
use Rattle.block_core.proofs.SimpleSteps.{empty_same, leapt_is_empty}
use Rattle.block_core.proofs.PlacesTold.{told_leapt}
use Rattle.block_core.proofs.running.Running.leap.Goals as goal

pub leap-requires-clause-calm : goal.leap-requires-clause-calm
leap-requires-clause-calm g c = λ k lt.
    (are_calm _ _ _ _ _ _ _ _ _ _ _ c.args.pad k _ _ c.self.view_is c.new-view.ensures (c.requires.calm k lt)).first

pub leap-requires-2-clause-calm : goal.leap-requires-2-clause-calm
leap-requires-2-clause-calm g c = λ k lt.
    (are_calm _ _ _ _ _ _ _ _ _ _ _ c.args.pad k _ _ c.self.view_is c.new-view.ensures (c.requires.calm k lt)).second

pub leap-requires-3-clause-calm : goal.leap-requires-3-clause-calm
leap-requires-3-clause-calm g c = λ k lt.
    (are_calm _ _ _ _ _ _ _ _ _ _ _ c.args.pad k _ _ c.self.view_is c.new-view.ensures (c.requires.calm k lt)).third

pub leap-requires-4-clause-calm : goal.leap-requires-4-clause-calm
leap-requires-4-clause-calm g c = λ k lt.
    (are_calm _ _ _ _ _ _ _ _ _ _ _ c.args.pad k _ _ c.self.view_is c.new-view.ensures (c.requires.calm k lt)).fourth

pub returns : goal.returns
returns g c =
    let b = c.self.inside in
    leapt_run b.shared.memory b.clock b.wanted.outputs.levels b.wanted.outputs.directions b.shared.flags.up b.outside b.shared.sync b.first b.second b.third b.fourth _ _ _ _ c.args.clocks c.leap.ensures c.leap-2.ensures c.leap-3.ensures c.leap-4.ensures
    ∙ ap (leapt c.args.clocks) c.self.view_is

pub invariant_of-self : goal.invariant_of-self
invariant_of-self g c =
    let b = c.self.inside in
    let kept = c.self.invariant.0 in (
      record {
        told = rw (c.leap.ensures, c.leap-2.ensures, c.leap-3.ensures, c.leap-4.ensures) (told_leapt b.shared.memory c.args.clocks (b.first ∷ b.second ∷ b.third ∷ b.fourth ∷ []) kept.told);
        first = in_step_leapt _ _ _ _ kept.first c.leap.ensures;
        second = in_step_leapt _ _ _ _ kept.second c.leap-2.ensures;
        third = in_step_leapt _ _ _ _ kept.third c.leap-3.ensures;
        fourth = in_step_leapt _ _ _ _ kept.fourth c.leap-4.ensures;
      },
      sample_leapt c.self.invariant.1 _ _ _ _ _ c.leap.ensures c.leap-2.ensures c.leap-3.ensures c.leap-4.ensures,
      record { alone = c.self.invariant.2.alone ∙ empty_same (leapt_place _) (leapt_is_empty _) c.leap-2.ensures c.leap-3.ensures c.leap-4.ensures; ready = λ h. cc },
    )
