use Rattle.span_ticks.proofs.Joined.{are_known, ages_have_room}
use Rattle.span_ticks.proofs.laws.open_ages_have_room.Goals as goal

pub returns : goal.returns
returns c u sp rows s r kept w configured table bounded unnamed free way n i =
    ages_have_room u sp rows s r kept w (are_known u sp rows s configured table (c.next_contexts_are_in_range.ensures u sp)) bounded unnamed free way n i
