use Rattle.std.proofs.Common.{◌+◌, ap, sym, subst, arith, ◌∙◌}
use Rattle.std.proofs.lemmas.List.{drop_all, take_rest}
use Rattle.answers.specs.Answers.{IsFound}
use Rattle.pio_assemble.specs.Answers.{line_told, told, located}
use Rattle.pio_assemble.specs.Checks.{first_fault, line_fault}
use Rattle.pio_assemble.specs.Lines.{has_word}
use Rattle.pio_assemble.proofs.Checking.{fault_left, passes_left}
use Rattle.pio_assemble.proofs.checks.check_lines.Goals as goal

pub returns-in-Err : goal.returns-in-Err
returns-in-Err c =
    let lines = c.args.lines.now in
    let i = c.loop-index.index in
    let found = subst (λ rest. IsFound (line_told c.in-Err.fault) (line_fault c.loop-index.before (has_word rest) c.index-lines-index.result.reading)) (take_rest lines (i + 1)) c.in-Err.ensures.value in
    let first = fault_left c.loop-index.before lines i c.index-lines-index.result c.in-Err.fault c.loop-index-test.true c.index-lines-index.is found in
    rw c.at_line.ensures (subst (IsFound (told (located c.index-lines-index.result.number c.in-Err.fault))) c.loop-index.invariant.faults first)

pub loop-index-preserved : goal.loop-index-preserved
loop-index-preserved c =
    let lines = c.args.lines.now in
    let i = c.loop-index.index in
    let none = ap (λ rest. line_fault c.loop-index.before (has_word rest) c.index-lines-index.result.reading) (sym (take_rest lines (i + 1))) ∙ c.in-Ok.ensures.value in
    let step = passes_left c.loop-index.before lines i c.index-lines-index.result c.in-Ok.statement.now c.loop-index-test.true c.index-lines-index.is c.in-Ok.ensures.statement none in
    record {
      faults = rw c.in_ok-pass-in-Ok.ensures.ok (step ∙ c.loop-index.invariant.faults);
      symbols = omega (arith, c.in_ok-pass-in-Ok.ensures.symbols);
      words = omega (arith, c.in_ok-pass-in-Ok.ensures.words);
    }

pub returns : goal.returns
unfolding first_fault
returns c = sym c.loop-index.invariant.faults ∙ ap (first_fault c.loop-index.before) (drop_all c.loop-index.index c.args.lines.now c.loop-index-test.false)
