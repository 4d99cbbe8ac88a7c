use Rattle.span_step.proofs.Ticks.{excused_ages, excused_causes, excused_closes, excused_passes}
use Rattle.span_step.proofs.laws.an_excused_tick_leaves_a_fresh_age_at_most.Goals as goal

pub returns : goal.returns
returns c = record { ages = excused_ages; causes = excused_causes; closes = excused_closes; passes = excused_passes }
