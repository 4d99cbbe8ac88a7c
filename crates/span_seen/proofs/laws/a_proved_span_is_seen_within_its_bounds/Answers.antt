use Rattle.span_seen.proofs.Distances.{seen_within}
use Rattle.span_seen.proofs.laws.a_proved_span_is_seen_within_its_bounds.Goals as goal

pub returns : goal.returns
returns c = λ u sp configured provable unshared clocks lines n undisturbed.
    seen_within c.a_distance_is_that_of_a_pair.ensures c.a_plain_span_measures_every_pair.ensures u sp configured
    (c.a_provable_span_holds_in_every_run.ensures u sp configured provable unshared) clocks lines n undisturbed
