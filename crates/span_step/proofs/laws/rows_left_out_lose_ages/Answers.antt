use Rattle.span_step.proofs.LeftOut.{left_out_alike, left_out_stops}
use Rattle.span_step.proofs.laws.rows_left_out_lose_ages.Goals as goal

pub returns : goal.returns
returns c = record { ages = left_out_alike; passes = left_out_stops }
