use Rattle.pio_lex.proofs.Longest.{bad_byte}
use Rattle.pio_lex.proofs.Spelled.{all_spelled}
use Rattle.pio_lex.proofs.laws.tokens_are_the_longest_spellings.Goals as goal

pub returns-clause-each : goal.returns-clause-each
returns-clause-each c = all_spelled

pub returns-clause-bad_byte : goal.returns-clause-bad_byte
returns-clause-bad_byte c = bad_byte
