use Rattle.span_refuted.proofs.Within.{no_bad_visit}
use Rattle.span_refuted.proofs.laws.a_provable_span_has_no_bad_visit.Goals as goal

pub returns : goal.returns
returns c = no_bad_visit c.a_step_is_monotone.ensures c.next_contexts_are_in_range.ensures c.each_entry_is_that_of_a_row.ensures
