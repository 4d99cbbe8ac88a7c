use Rattle.span_texts.proofs.LeastTold.{least_told}
use Rattle.span_texts.proofs.laws.a_least_table_is_told.Goals as goal

pub returns : goal.returns
returns c = least_told c.a_step_is_monotone.ensures c.ages_grow_up_to_the_cap.ensures.cap
