use Rattle.span_meter.proofs.SpokenPairs.{distances_of_pairs}
use Rattle.span_meter.proofs.laws.a_distance_is_that_of_a_pair.Goals as goal

pub returns : goal.returns
returns c = distances_of_pairs
