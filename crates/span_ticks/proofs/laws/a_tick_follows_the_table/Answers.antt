use Rattle.span_ticks.proofs.Joined.{are_known, tick_followed}
use Rattle.span_ticks.proofs.laws.a_tick_follows_the_table.Goals as goal

pub returns : goal.returns
returns c u sp rows s v q r kept w configured table memory way =
    tick_followed u sp rows s v q r kept w (are_known u sp rows s configured table (c.next_contexts_are_in_range.ensures u sp)) memory way
