use Rattle.std.proofs.Common.{◌∷◌, ◌+◌, List, ℕ, take, sym, ap, ◌∙◌, arith}
use Rattle.std.proofs.lemmas.List.{take_rest}
use Rattle.byte_lines.proofs.FirstLine.{split, line_ends, line_last}
use Rattle.byte_lines.proofs.lines.first_line.Goals as goal

pub returns-then-byte-eq10-clause-line : goal.returns-then-byte-eq10-clause-line
returns-then-byte-eq10-clause-line c =
    let text = c.args.text.now in
    let i = c.loop-at.at in
    line_ends text i (omega arith) c.if-byte-eq10.true c.loop-at.invariant
    ∙ ap (λ (rest : List ℕ). take i text ∷ split rest) (sym (take_rest text (i + 1)))

pub returns-clause-line : goal.returns-clause-line
returns-clause-line c = line_last c.args.text.now c.loop-at.at (omega arith) c.loop-at.invariant
