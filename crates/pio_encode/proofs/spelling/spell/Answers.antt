-- The number is printed exactly where no instruction is written to the word.
use Rattle.std.proofs.Common.{inr, sym, ◌∙◌}
use Rattle.pio_encode.proofs.Spelled.{not_its_word, not_writable}
use Rattle.pio_encode.proofs.spelling.spell.Goals as goal
use Rattle.pio_encode.proofs.spelling.spell.Goals.{else-has_text-via-then-has_text+else-encode-word, else-has_text-via-else-has_text}

pub returns-else-has_text-clause-meaning : goal.returns-else-has_text-clause-meaning
returns-else-has_text-clause-meaning c =
    inr (
      elim c.else-has_text.branch [
        | else-has_text-via-then-has_text+else-encode-word w ↦
            not_its_word _ _ _ c.decode-op.ensures.value (λ e. w.if-encode-word.false (w.encode.ensures ∙ e))
        | else-has_text-via-else-has_text w ↦
            not_writable _ _ _ c.decode-op.ensures.value (sym c.has_text.ensures ∙ w.if-has_text.false)
      ],
      c.word_text.ensures,
    )
