use Rattle.span_bounds.proofs.Least.{least_rows}
use Rattle.span_bounds.proofs.Only.{only_one}
use Rattle.span_bounds.proofs.laws.a_least_closed_table_exists.Goals as goal

pub returns-clause-exists : goal.returns-clause-exists
returns-clause-exists c = least_rows

pub returns-clause-one : goal.returns-clause-one
returns-clause-one c = only_one
