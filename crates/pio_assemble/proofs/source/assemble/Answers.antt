use Rattle.std.proofs.Common.{◌≡◌, ◌∙◌, ap, sym, subst, map}
use Rattle.pio_lex.specs.Reading.{reading_of}
use Rattle.pio_assemble.specs.Answers.{Gives}
use Rattle.pio_assemble.specs.Lines.{lines_of}
use Rattle.pio_assemble.specs.Program.{assembled_of}
use Rattle.pio_assemble.specs.Source.{reads_source, reads_tokens, reads_lines}
use Rattle.pio_assemble.proofs.Distinct.{distinct_of}
use Rattle.pio_assemble.proofs.Programs.{told_of_tokens}
use Rattle.pio_assemble.proofs.source.assemble.Goals as goal

pub returns-in-Ok : goal.returns-in-Ok
unfolding reads_source
returns-in-Ok c =
    let source = c.args.source.now in
    let same : reads_tokens source (reading_of source) ≡ reads_lines (lines_of source c.deref.result.now) =
    ap (reads_tokens source) c.in-Ok.ensures.value ∙ ap (λ t. reads_lines (lines_of source t)) (sym c.deref.ensures.value) in
    let exact = subst (Gives (λ v. map assembled_of v.items) c.read.result) (sym same) c.read.ensures in
    record { exact = exact; distinct = distinct_of (λ v. v.items) source c.read.result exact }

pub returns-in-Err : goal.returns-in-Err
unfolding reads_source
returns-in-Err c = record { exact = rw c.of_tokens.ensures (told_of_tokens c.args.source.now c.in-Err.fault (reading_of c.args.source.now) c.in-Err.ensures.value); distinct = tt }
