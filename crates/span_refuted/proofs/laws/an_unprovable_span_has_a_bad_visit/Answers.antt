use Rattle.span_refuted.proofs.Deciding.{decided}
use Rattle.span_refuted.proofs.laws.an_unprovable_span_has_a_bad_visit.Goals as goal

pub returns : goal.returns
returns c =
    let numbers = c.each_context_has_its_number.ensures in
    decided (record { below = numbers.below; context = numbers.context; number = numbers.number }) c.next_contexts_are_in_range.ensures
