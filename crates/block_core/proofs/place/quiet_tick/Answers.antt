use Rattle.std.proofs.Common.{ap, sym, ◌∙◌}
use Rattle.sm_registers.specs.declared.intent.Intent.{Intent}
use Rattle.dreq_pacing.specs.Due.{quiet}
use Rattle.block_core.proofs.Showing.{still_shows}
use Rattle.block_core.proofs.place.quiet_tick.Goals as goal

pub tell-requires-clause-shows : goal.tell-requires-clause-shows
tell-requires-clause-shows g c = λ unused silent.
    let tick = c.quiet_tick-used.ensures in
    still_shows c.a_quiet_clock_changes_nothing.ensures c.args.place c.args.view.now quiet c.args.slot.now c.quiet_tick-used.new.self c.args.sample.now
    tick.after (sym tick.used ∙ unused) (sym (ap (λ (i : Intent). i.sticky) tick.intent) ∙ silent) c.requires.shows
