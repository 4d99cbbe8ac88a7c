use Rattle.std.proofs.Common.{◌≡◌, true, false, Some, refl, ap, sym, subst, ◌∙◌}
use Rattle.pin_matrix.specs.Pads.{seen_of}
use Rattle.sm_registers.specs.View.{View}
use Rattle.sm_registers.specs.Intents.{written_by}
use Rattle.dreq_pacing.specs.Due.{quiet}
use Rattle.block_core.specs.Block.{Run, next_over, uses_fifos_over}
use Rattle.block_core.specs.Kept.{IsSampleOf, state_of}
use Rattle.block_core.specs.Shown.{sample_of}
use Rattle.block_core.specs.Slots.{place_after, place_intent}
use Rattle.block_core.specs.declared.sample.Sample.{Sample}
use Rattle.block_core.proofs.Showing.{shows_first, first_new, outputs_new}
use Rattle.block_core.proofs.SimpleSteps.{AllEmpty, IsSimple, all_empty, simple_run, simple_uses_none, simple_shows, stays_empty}
use Rattle.block_core.proofs.SimpleClocks.{WantsPins}
use Rattle.block_core.proofs.PlacesTold.{all_in_step}
use Rattle.block_core.proofs.MergedWants.{view}
use Rattle.block_core.proofs.running.Running.quiet_step.Given.{Over}
use Rattle.block_core.proofs.running.Running.quiet_step.Goals as goal
use Rattle.block_core.proofs.running.Running.quiet_step.Goals.{then-self-via-then-self, then-self-via-else-self+then-self-2}

-- the block knows that the other places are empty
alone : (g : Over) (c : goal.After-show_pins g) → c.self.inside.known.alone ≡ true
alone g c = elim c.then-self.branch [
  | then-self-via-then-self w ↦ (c.self.invariant.2.ready w.if-self.true).0
  | then-self-via-else-self+then-self-2 w ↦ w.if-self-2.true
]

empty : (g : Over) (c : goal.After-show_pins g) → AllEmpty c.self.inside.second c.self.inside.third c.self.inside.fourth
empty g c =
    let b = c.self.inside in
    all_empty b.second b.third b.fourth (sym c.self.invariant.2.alone ∙ alone g c)

-- and the machine's clock is a simple one
simple : (g : Over) (c : goal.After-show_pins g) → IsSimple c.self.inside.shared.memory c.self.inside.wanted.outputs.levels c.self.inside.wanted.outputs.directions c.self.inside.shared.flags.up c.self.inside.shared.sync c.args.pad (seen_of c.self.inside.shared.sync.bypass c.args.pad c.self.inside.shared.sync.pad_2) c.self.inside.first (Some c.simple_clock-tried.new.self) c.simple_clock-tried.new.outputs
simple g c =
    let b = c.self.inside in
    let sees = c.new-view.ensures in
    let v = view b.shared.memory (seen_of b.shared.sync.bypass c.args.pad b.shared.sync.pad_2) b.shared.flags.up in
    let made = c.simple_clock-tried.ensures.done (sym c.is_done.ensures ∙ c.if-is_done.true) in record {
      sees = refl;
      after = ap Some made.after ∙ ap (λ (w : View). place_after w quiet (Some c.in-Some.first)) sees ∙ ap (place_after v quiet) (sym c.in-Some.is);
      outputs = made.outputs ∙ ap (λ (w : View). written_by b.wanted.outputs (place_intent w quiet (Some c.in-Some.first))) sees ∙ ap (λ s. written_by b.wanted.outputs (place_intent v quiet s)) (sym c.in-Some.is);
      wants = subst (λ s. WantsPins (place_intent v quiet s)) (sym c.in-Some.is) (subst (λ (w : View). WantsPins (place_intent w quiet (Some c.in-Some.first))) sees made.wants);
    }

pub invariant_of-self : goal.invariant_of-self
invariant_of-self g c =
    let b = c.self.inside in
    let v = view b.shared.memory (seen_of b.shared.sync.bypass c.args.pad b.shared.sync.pad_2) b.shared.flags.up in
    let law = c.a_calm_tick_tells_nothing_new.ensures in
    let none = empty g c in
    let second = stays_empty v quiet b.second none.second in
    let third = stays_empty v quiet b.third none.third in
    let fourth = stays_empty v quiet b.fourth none.fourth in
    let shows = simple_shows c.a_quiet_clock_changes_nothing.ensures b.shared.memory b.wanted.outputs.levels b.wanted.outputs.directions b.shared.flags.up b.shared.sync c.args.pad _ b.first (Some c.simple_clock-tried.new.self) c.simple_clock-tried.new.outputs b.sample (simple g c) (shows_first c.self.invariant.1) in
    let o = c.simple_clock-tried.new.outputs in (
      all_in_step law.after law.more _ _ v quiet refl c.self.invariant.0 (simple g c).after second third fourth,
      subst (λ (s : Sample). IsSampleOf (state_of (Some c.simple_clock-tried.new.self) b.second b.third b.fourth o.levels o.directions b.shared.flags.up b.outside) s) (sym c.show_pins.ensures.after)
          (outputs_new (first_new c.self.invariant.1 _ _ shows) o.levels o.directions),
      record { alone = c.self.invariant.2.alone; ready = λ h. (alone g c, c.simple_clock-tried.ensures.next (sym c.is_ready-self-inside.ensures ∙ h)) },
    )

pub returns-then-is_done-clause-run : goal.returns-then-is_done-clause-run
returns-then-is_done-clause-run g c =
    let b = c.self.inside in
    simple_run b.shared.memory b.clock b.wanted.outputs.levels b.wanted.outputs.directions b.shared.flags.up b.outside b.shared.sync c.step.new.self c.args.pad _ b.first b.second b.third b.fourth (Some c.simple_clock-tried.new.self) c.simple_clock-tried.new.outputs (empty g c) (simple g c) c.step.ensures
    ∙ ap (next_over c.args.pad quiet) c.self.view_is

pub returns-then-is_done-clause-fifos : goal.returns-then-is_done-clause-fifos
returns-then-is_done-clause-fifos g c =
    let b = c.self.inside in
    subst (λ (r : Run). false ≡ uses_fifos_over c.args.pad quiet r) c.self.view_is
    (simple_uses_none b.shared.memory b.clock b.wanted.outputs.levels b.wanted.outputs.directions b.shared.flags.up b.outside b.shared.sync c.args.pad _ b.first b.second b.third b.fourth (Some c.simple_clock-tried.new.self) c.simple_clock-tried.new.outputs (empty g c) (simple g c))

pub returns-then-is_done-clause-shown : goal.returns-then-is_done-clause-shown
returns-then-is_done-clause-shown g c = λ told.
    sym (invariant_of-self g c).1.is
    ∙ c.show_pins.ensures.same told
    ∙ c.self.invariant.1.is
    ∙ ap (λ (r : Run). sample_of r.state) c.self.view_is
