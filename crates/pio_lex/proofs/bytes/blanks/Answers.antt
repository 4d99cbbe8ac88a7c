use Rattle.std.proofs.Common.{◌≡◌, ◌∙◌, ap, not, length, rules, tests, arith}
use Rattle.std.specs.Prelude.{unwrap_or}
use Rattle.std.specs.List.{position}
use Rattle.std.proofs.lemmas.Iterator.{YieldsList-from_slice}
use Rattle.std.proofs.lemmas.Iterator.Search.{position_from_yields_List}
use Rattle.std.proofs.lemmas.List.Sums.{prefix_len-le-length}
use Rattle.byte_lines.specs.Bytes.{is_blank}
use Rattle.pio_lex.proofs.Runs.{failing, first_or_end}
use Rattle.pio_lex.proofs.bytes.blanks.Goals as goal

pub returns-clause-value : goal.returns-clause-value
returns-clause-value c =
    let text = c.args.text.now in
    let at : c.position.result ≡ position (λ b. not (is_blank b)) text = position_from_yields_List (λ b. not (is_blank b)) _ _ c.position.result c.position.ensures.ran (YieldsList-from_slice text c.iter.ensures.rest) (λ x b q k. search (rules, tests)) in
    c.unwrap_or.ensures ∙ ap (λ o. unwrap_or o (length text)) at ∙ first_or_end (λ b. not (is_blank b)) text ∙ failing is_blank text

pub returns-clause-within : goal.returns-clause-within
returns-clause-within c = omega (arith, returns-clause-value c, prefix_len-le-length is_blank c.args.text.now)
