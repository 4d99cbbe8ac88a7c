use Rattle.span_bounds.proofs.Members.{member}
use Rattle.span_bounds.proofs.laws.each_entry_is_that_of_a_row.Goals as goal

pub returns : goal.returns
returns c = member
