use Rattle.std.proofs.Common.{◌∙◌, ap, sym, ◌+◌, drop, unwrap_or}
use Rattle.pio_assemble.specs.Lines.{has_word}
use Rattle.pio_assemble.proofs.Checking.{word_left}
use Rattle.std.proofs.lemmas.List.{drop_all}
use Rattle.pio_assemble.proofs.checks.has_word.Goals as goal

pub returns-in-Some : goal.returns-in-Some
returns-in-Some c =
    let step = word_left c.args.lines.now c.loop-line.line-index c.line-item.result c.word_on.result c.loop-line-test.true c.line-item.is c.word_on.ensures in
    sym (sym c.loop-line.invariant ∙ step ∙ ap (λ w. unwrap_or w (has_word (drop (c.loop-line.line-index + 1) c.args.lines.now))) c.in-Some.is)

pub loop-line-preserved : goal.loop-line-preserved
loop-line-preserved c =
    let step = word_left c.args.lines.now c.loop-line.line-index c.line-item.result c.word_on.result c.loop-line-test.true c.line-item.is c.word_on.ensures in
    sym (step ∙ ap (λ w. unwrap_or w (has_word (drop (c.loop-line.line-index + 1) c.args.lines.now))) c.in_default.is) ∙ c.loop-line.invariant

pub returns : goal.returns
unfolding has_word
returns c = sym (sym c.loop-line.invariant ∙ ap has_word (drop_all c.loop-line.line-index c.args.lines.now c.loop-line-test.false))
