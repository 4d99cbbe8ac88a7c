use Rattle.std.proofs.Common.{List, Result, subst}
use Rattle.answers.specs.Answers.{Gives}
use Rattle.span_bounds.specs.declared.row.Row.{Row}
use Rattle.span_bounds.specs.Tables.{FollowedRows}
use Rattle.span_texts.specs.Faults.{TableRefusal, told}
use Rattle.span_texts.proofs.Readback.{after_file}
use Rattle.span_texts.proofs.table.read_table.Goals as goal

pub returns-in-Some-clause-rows : goal.returns-in-Some-clause-rows
returns-in-Some-clause-rows c =
    subst (λ (rows : Result (List Row) TableRefusal). Gives told (λ (table : FollowedRows). table.rows) c.read_after.result rows)
    (after_file c.args.follow c.args.bytes.now c.first_line.result.0.now c.first_line.result.1 c.in-Some.text c.first_line.ensures.line c.in-Some.is) c.read_after.ensures.rows
