use Rattle.std.proofs.Common.{ap, sym, ◌∙◌}
use Rattle.sm_registers.specs.declared.intent.Intent.{Intent}
use Rattle.block_core.proofs.Showing.{still_shows}
use Rattle.block_core.proofs.place.due_step.Goals as goal

pub tell-requires-clause-shows : goal.tell-requires-clause-shows
tell-requires-clause-shows g c = λ unused silent.
    let tick = c.clock-used.ensures in
    still_shows c.a_quiet_clock_changes_nothing.ensures c.args.place c.args.view.now c.args.due.now c.args.slot.now c.clock-used.new.self c.args.sample.now
    tick.after (sym tick.used ∙ unused) (sym (ap (λ (i : Intent). i.sticky) tick.intent) ∙ silent) c.requires.shows
