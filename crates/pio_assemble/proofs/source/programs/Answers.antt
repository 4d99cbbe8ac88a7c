use Rattle.std.proofs.Common.{◌≡◌, subst, map}
use Rattle.answers.specs.Answers as answers
use Rattle.pio_assemble.specs.Answers.{told}
use Rattle.pio_assemble.specs.Program.{assembled_of}
use Rattle.pio_assemble.specs.Source.{with_programs, programs_from, programs_of}
use Rattle.pio_assemble.proofs.Programs.{none_before}
use Rattle.pio_assemble.proofs.source.programs.Goals as goal

pub returns-in-Err : goal.returns-in-Err
returns-in-Err c =
    let lines = c.args.lines.now in
    let a = c.in_ok-assembly.assembly in
    let begun = c.in_ok-assembly.ensures in
    let same : with_programs (map assembled_of a.programs.items) (programs_from lines a.scope a.draft) ≡ programs_of lines =
    rw (begun.programs, begun.scope, begun.draft) (none_before (programs_of lines)) in
    subst (answers.Refuses (told c.in-Err.fault)) same c.in-Err.ensures
