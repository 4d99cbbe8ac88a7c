use Rattle.std.proofs.Common.{◌||◌, ap, refl, ◌∙◌}
use Rattle.pin_matrix.specs.Pads.{seen_of}
use Rattle.sm_registers.specs.View.{View}
use Rattle.block_core.specs.Merging.{with_intent}
use Rattle.block_core.specs.Slots.{doing, place_after, place_intent, place_uses_fifos}
use Rattle.block_core.proofs.Showing.{shows_first, shows_second, shows_third, shows_fourth, first_new, second_new, third_new, fourth_new, pins_new}
use Rattle.block_core.proofs.PlacesTold.{all_in_step}
use Rattle.block_core.proofs.SimpleSteps.{empty_same, after_is_empty}
use Rattle.block_core.proofs.MergedWants.{next_run, any_used}
use Rattle.block_core.proofs.running.Running.step_all.Goals as goal

pub step-by_first-requires-clause-shows : goal.step-by_first-requires-clause-shows
step-by_first-requires-clause-shows g c =
    shows_first c.self.invariant.1

pub step-by_second-requires-clause-shows : goal.step-by_second-requires-clause-shows
step-by_second-requires-clause-shows g c =
    let one = first_new c.self.invariant.1 _ _ c.step-by_first.ensures.sample in
    shows_second one

pub step-by_third-requires-clause-shows : goal.step-by_third-requires-clause-shows
step-by_third-requires-clause-shows g c =
    let one = first_new c.self.invariant.1 _ _ c.step-by_first.ensures.sample in
    let two = second_new one _ _ c.step-by_second.ensures.sample in
    shows_third two

pub step-used-requires-clause-shows : goal.step-used-requires-clause-shows
step-used-requires-clause-shows g c =
    let one = first_new c.self.invariant.1 _ _ c.step-by_first.ensures.sample in
    let two = second_new one _ _ c.step-by_second.ensures.sample in
    let three = third_new two _ _ c.step-by_third.ensures.sample in
    shows_fourth three

pub invariant_of-self : goal.invariant_of-self
invariant_of-self g c =
    let law = c.a_calm_tick_tells_nothing_new.ensures in
    let memory = ap (λ (v : View). v.memory) c.new-view.ensures in
    let one = first_new c.self.invariant.1 _ _ c.step-by_first.ensures.sample in
    let two = second_new one _ _ c.step-by_second.ensures.sample in
    let three = third_new two _ _ c.step-by_third.ensures.sample in
    let four = fourth_new three _ _ c.step-used.ensures.sample in (
      all_in_step law.after law.more _ _ _ _ memory c.self.invariant.0 c.step-by_first.ensures.after c.step-by_second.ensures.after c.step-by_third.ensures.after c.step-used.ensures.after,
      pins_new four _ _ _ _,
      record {
        alone = c.self.invariant.2.alone ∙ empty_same (place_after _ _) (after_is_empty _ _) c.step-by_second.ensures.after c.step-by_third.ensures.after c.step-used.ensures.after;
        ready = λ h. cc;
      },
    )

pub returns-clause-run : goal.returns-clause-run
returns-clause-run g c =
    let b = c.self.inside in
    let next = next_run (doing c.args.due) b.shared.memory b.clock b.wanted.outputs.levels b.wanted.outputs.directions b.shared.flags.up b.outside b.shared.sync b.first b.second b.third b.fourth c.outside_after-self-inside.result c.args.pad (seen_of b.shared.sync.bypass c.args.pad b.shared.sync.pad_2) c.begin.new.self c.step-by_first.new.wanted c.step-by_second.new.wanted c.step-by_third.new.wanted c.step-used.new.wanted _ _ _ _ _ _ (record {
      driven = c.outside_after-self-inside.ensures;
      sees = refl;
      start = c.begin.ensures;
      first = c.step-by_first.ensures.wanted ∙ ap (λ (v : View). with_intent c.begin.new.self (place_intent v (doing c.args.due) b.first)) c.new-view.ensures;
      second = c.step-by_second.ensures.wanted ∙ ap (λ (v : View). with_intent c.step-by_first.new.wanted (place_intent v (doing c.args.due) b.second)) c.new-view.ensures;
      third = c.step-by_third.ensures.wanted ∙ ap (λ (v : View). with_intent c.step-by_second.new.wanted (place_intent v (doing c.args.due) b.third)) c.new-view.ensures;
      fourth = c.step-used.ensures.wanted ∙ ap (λ (v : View). with_intent c.step-by_third.new.wanted (place_intent v (doing c.args.due) b.fourth)) c.new-view.ensures;
    })
    c.merge_flags.ensures c.step.ensures (c.step-by_first.ensures.after ∙ ap (λ (v : View). place_after v (doing c.args.due) b.first) c.new-view.ensures) (c.step-by_second.ensures.after ∙ ap (λ (v : View). place_after v (doing c.args.due) b.second) c.new-view.ensures) (c.step-by_third.ensures.after ∙ ap (λ (v : View). place_after v (doing c.args.due) b.third) c.new-view.ensures) (c.step-used.ensures.after ∙ ap (λ (v : View). place_after v (doing c.args.due) b.fourth) c.new-view.ensures) in
    rw (← c.self.view_is) next

pub returns-clause-used : goal.returns-clause-used
returns-clause-used g c =
    let b = c.self.inside in
    let any = any_used (doing c.args.due) b.shared.memory b.clock b.wanted.outputs.levels b.wanted.outputs.directions b.shared.flags.up b.outside b.shared.sync b.first b.second b.third b.fourth c.outside_after-self-inside.result c.args.pad (seen_of b.shared.sync.bypass c.args.pad b.shared.sync.pad_2) c.begin.new.self c.step-by_first.new.wanted c.step-by_second.new.wanted c.step-by_third.new.wanted c.step-used.new.wanted (record {
      driven = c.outside_after-self-inside.ensures;
      sees = refl;
      start = c.begin.ensures;
      first = c.step-by_first.ensures.wanted ∙ ap (λ (v : View). with_intent c.begin.new.self (place_intent v (doing c.args.due) b.first)) c.new-view.ensures;
      second = c.step-by_second.ensures.wanted ∙ ap (λ (v : View). with_intent c.step-by_first.new.wanted (place_intent v (doing c.args.due) b.second)) c.new-view.ensures;
      third = c.step-by_third.ensures.wanted ∙ ap (λ (v : View). with_intent c.step-by_second.new.wanted (place_intent v (doing c.args.due) b.third)) c.new-view.ensures;
      fourth = c.step-used.ensures.wanted ∙ ap (λ (v : View). with_intent c.step-by_third.new.wanted (place_intent v (doing c.args.due) b.fourth)) c.new-view.ensures;
    }) _ _ _ _
    (c.step-by_first.ensures.used ∙ ap (λ (v : View). place_uses_fifos v (doing c.args.due) b.first) c.new-view.ensures)
    (c.step-by_second.ensures.used ∙ ap (λ (v : View). c.step-by_first.result || place_uses_fifos v (doing c.args.due) b.second) c.new-view.ensures)
    (c.step-by_third.ensures.used ∙ ap (λ (v : View). c.step-by_second.result || place_uses_fifos v (doing c.args.due) b.third) c.new-view.ensures)
    (c.step-used.ensures.used ∙ ap (λ (v : View). c.step-by_third.result || place_uses_fifos v (doing c.args.due) b.fourth) c.new-view.ensures) in
    rw (← c.self.view_is) any
