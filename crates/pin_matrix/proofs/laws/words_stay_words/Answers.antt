-- The ranges of what is made of words.
use Rattle.pin_matrix.proofs.Merging.{merged-lt}
use Rattle.pin_matrix.proofs.PadLaws.{pads_of-lt, seen_of-lt}
use Rattle.pin_matrix.proofs.laws.words_stay_words.Goals as goal

pub returns : goal.returns
returns c = record { merged = merged-lt; pads = pads_of-lt; seen = seen_of-lt }
