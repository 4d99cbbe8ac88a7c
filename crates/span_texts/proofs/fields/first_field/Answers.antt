use Rattle.std.proofs.Common.{◌∷◌, ◌+◌, List, ℕ, take, sym, ap, ◌∙◌, arith}
use Rattle.std.proofs.lemmas.List.{take_rest}
use Rattle.span_texts.proofs.Parted.{split, field_ends, field_last}
use Rattle.span_texts.proofs.fields.first_field.Goals as goal

pub returns-then-byte-eq32 : goal.returns-then-byte-eq32
returns-then-byte-eq32 c =
    let text = c.args.text.now in
    let i = c.loop-at.at in
    field_ends text i (omega arith) c.if-byte-eq32.true c.loop-at.invariant
    ∙ ap (λ (after : List ℕ). take i text ∷ split after) (sym (take_rest text (i + 1)))

pub returns : goal.returns
returns c = field_last c.args.text.now c.loop-at.at (omega arith) c.loop-at.invariant
