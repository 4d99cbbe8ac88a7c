use Rattle.std.proofs.Common.{length, Some, sym, ap, ◌∙◌}
use Rattle.std.proofs.lemmas.List.FromFn.{length-map-range_with_len}
use Rattle.span_step.specs.Narrowing.{values_of}
use Rattle.span_step.proofs.narrowing.Values.len.Goals as goal

pub returns-in-Each-clause-value : goal.returns-in-Each-clause-value
returns-in-Each-clause-value c = c.numbers_in.ensures ∙ sym (ap (λ v. length (values_of v)) c.in-Each.is ∙ length-map-range_with_len Some c.in-Each.range.lo _)
