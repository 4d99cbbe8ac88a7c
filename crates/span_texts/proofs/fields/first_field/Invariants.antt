use Rattle.std.proofs.Common.{take}
use Rattle.span_texts.proofs.Parted.{IsField}
use Rattle.span_texts.proofs.fields.first_field.Given as goal

-- no blank so far
abbrev pub invariant-loop-at : goal.invariant-loop-at
invariant-loop-at l = IsField (take l.at l.text)
