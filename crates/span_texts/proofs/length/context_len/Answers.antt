use Rattle.std.proofs.Common.{length, ap}
use Rattle.span_texts.proofs.Lengths.{context_parts}
use Rattle.span_texts.proofs.length.context_len.Goals as goal

pub returns-clause-value : goal.returns-clause-value
returns-clause-value c = rw (← c.context.view_is) (context_parts _ _ _ _ (ap length c.format-address.ensures.text) c.known_len-x.ensures.value c.known_len-y.ensures.value)
