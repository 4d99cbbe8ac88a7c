-- std's reversal is this one, and bit i of it is bit 31 - i.
use Rattle.std.proofs.Common.{◌∙◌}
use Rattle.shift_engine.proofs.ReverseLaws.{reverse_bits_is, bit_at-reversed_bits}
use Rattle.shift_engine.proofs.reverse.reverse_bits.Goals as goal

pub returns-clause-value : goal.returns-clause-value
returns-clause-value c = c.reverse_bits.ensures ∙ reverse_bits_is c.args.word

pub returns-clause-bits : goal.returns-clause-bits
returns-clause-bits c = λ i h. rw (c.reverse_bits.ensures, reverse_bits_is c.args.word) (bit_at-reversed_bits c.args.word i h)
