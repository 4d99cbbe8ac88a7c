use Rattle.span_check.proofs.Plain.{plain_free, plain_kept, plain_spoken}
use Rattle.span_check.proofs.laws.a_plain_span_excuses_nothing.Goals as goal

pub returns : goal.returns
returns c = record { excused = plain_free; misses = plain_kept; spoken = plain_spoken }
