use Rattle.program_runs.proofs.Words.{accepted_are_words}
use Rattle.program_runs.proofs.laws.accepted_words_have_32_bits.Goals as goal

pub returns : goal.returns
returns c = accepted_are_words
