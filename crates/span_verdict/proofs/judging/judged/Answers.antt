use Rattle.std.proofs.Common.{rules}
use Rattle.span_verdict.proofs.Unprovable.{unprovable}
use Rattle.span_verdict.proofs.judging.judged.Goals as goal

pub returns-in-Bad : goal.returns-in-Bad
returns-in-Bad c =
    let first = rw c.in-Bad.is at c.requires.answer in
    record { alone = c.requires.alone; unprovable = unprovable c.each_entry_is_that_of_a_row.ensures _ _ _ _ first; first = first }

-- as the search finds it; a wrong body is refused at once
pub returns-in-Closed : goal.returns-in-Closed
returns-in-Closed c = search rules
