use Rattle.std.proofs.Common.{◌≡◌, ℕ, List, ap, sym, ◌∙◌, true, false, drop, arith, rules}
use Rattle.std.specs.Prelude.{codes}
use Rattle.std.proofs.lemmas.List.{take_rest}
use Rattle.pio_lex.specs.Bytes.{begins_with}
use Rattle.pio_lex.proofs.Gaps.{closing_more, closing_found, closing_all}
use Rattle.pio_lex.proofs.gap.comment_length.Goals as goal

pub returns-then-starts_with : goal.returns-then-starts_with
returns-then-starts_with c =
    let text = c.args.text.now in
    let ends : begins_with (codes "*/") (drop c.loop-at.at text) ≡ true = search rules in
    closing_found text c.loop-at.at (omega arith) ends c.loop-at.invariant

pub loop-at-preserved : goal.loop-at-preserved
loop-at-preserved c =
    let text = c.args.text.now in
    let goes_on : begins_with (codes "*/") (drop c.loop-at.at text) ≡ false = ap (λ (xs : List ℕ). begins_with (codes "*/") xs) (sym (take_rest text c.loop-at.at)) ∙ sym c.if-starts_with.ensures.value in
    closing_more text c.loop-at.at (omega arith) goes_on c.loop-at.invariant

pub returns : goal.returns
returns c = closing_all c.args.text.now c.loop-at.at (omega arith) c.loop-at.invariant
