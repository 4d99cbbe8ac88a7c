use Rattle.std.proofs.Common.{ap, subst, sym, ◌∙◌, rules}
use Rattle.sm_registers.specs.Intents.{Wants}
use Rattle.dreq_pacing.specs.Due.{quiet}
use Rattle.block_core.specs.Shown.{Shows}
use Rattle.block_core.specs.Slots.{slot_intent}
use Rattle.block_core.proofs.Showing.{still_shows}
use Rattle.block_core.proofs.SimpleClocks.{adds_pins, uses_none}
use Rattle.block_core.proofs.MergedWants.{unused}
use Rattle.block_core.proofs.place.step.Goals as goal

pub returns-then-is_done-clause-wanted : goal.returns-then-is_done-clause-wanted
returns-then-is_done-clause-wanted g c =
    let simple = c.simple_clock.ensures.done (sym c.is_done.ensures ∙ c.if-is_done.true) in
    rw (c.in_default-due.is, c.in-Some.is)
    (adds_pins c.args.wanted.now c.simple_clock.new.outputs (slot_intent c.args.view.now quiet c.in-Some.slot) simple.outputs simple.wants)

pub returns-then-is_done-clause-used : goal.returns-then-is_done-clause-used
returns-then-is_done-clause-used g c =
    let simple = c.simple_clock.ensures.done (sym c.is_done.ensures ∙ c.if-is_done.true) in
    rw (c.in_default-due.is, c.in-Some.is) (unused c.args.used (uses_none c.args.view.now c.in-Some.slot simple.wants))

pub returns-then-is_done-clause-sample : goal.returns-then-is_done-clause-sample
returns-then-is_done-clause-sample g c =
    let v = c.args.view.now in
    let simple = c.simple_clock.ensures.done (sym c.is_done.ensures ∙ c.if-is_done.true) in
    still_shows c.a_quiet_clock_changes_nothing.ensures c.args.place v quiet c.in-Some.slot c.simple_clock.new.self c.args.sample.now
    simple.after (sym (uses_none v c.in-Some.slot simple.wants)) (ap (λ (w : Wants). w.sticky) simple.wants)
    (subst (λ s. Shows c.args.place s c.args.sample.now) c.in-Some.is c.requires.shows)

-- as the search finds it; a wrong body is refused at once
pub returns-in_default-due-clause-used : goal.returns-in_default-due-clause-used
returns-in_default-due-clause-used g c = search rules steps 300000
