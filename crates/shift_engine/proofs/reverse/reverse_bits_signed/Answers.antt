-- std's reversal of a signed number is that of its two's complement.
use Rattle.std.proofs.Common.{rules, ◌∙◌, ap, w32}
use Rattle.std.specs.Int.{cast_signed, cast_unsigned}
use Rattle.std.proofs.lemmas.Int.{to_z-of_z}
use Rattle.shift_engine.proofs.ReverseLaws.{reverse_bits_is}
use Rattle.shift_engine.proofs.reverse.reverse_bits_signed.Goals as goal

pub returns : goal.returns
returns c =
    to_z-of_z w32 c.reverse_bits.result (search rules)
    ∙ (simp (to_z-of_z w32 c.args.number c.ranges.number) at c.reverse_bits.ensures) ∙ ap (cast_signed w32) (reverse_bits_is (cast_unsigned w32 c.args.number))
