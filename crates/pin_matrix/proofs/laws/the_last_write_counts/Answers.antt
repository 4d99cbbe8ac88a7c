-- Which write each pin gets.
use Rattle.pin_matrix.proofs.Merging.{bit_at-merged, last_of-last, last_of-none}
use Rattle.pin_matrix.proofs.laws.the_last_write_counts.Goals as goal

pub returns : goal.returns
returns c = record { pin = bit_at-merged; last = last_of-last; none = last_of-none }
