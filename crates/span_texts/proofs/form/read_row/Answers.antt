use Rattle.std.proofs.Common.{◌∙◌, Option, ap, arith}
use Rattle.span_bounds.specs.declared.row.Row.{Row}
use Rattle.span_texts.specs.TableLines.{row_at, in_order, said_in, fields_of}
use Rattle.span_texts.proofs.Forms.{none_said, some_said}
use Rattle.span_texts.proofs.form.read_row.Goals as goal

pub returns-in-None-clause-value : goal.returns-in-None-clause-value
unfolding row_at
returns-in-None-clause-value c = none_said c.args.follow c.args.least (said_in (fields_of c.args.line.now)) c.in-None.ensures

pub returns-in-Some-clause-value : goal.returns-in-Some-clause-value
unfolding row_at
returns-in-Some-clause-value c =
    c.in_order.ensures.value ∙ (ap (λ (r : Option Row). in_order c.args.follow c.args.least r) c.row_of.ensures.value
    ∙ some_said c.args.follow c.args.least (said_in (fields_of c.args.line.now)) c.in-Some.said (record { x = omega arith; y = omega arith }) c.in-Some.ensures)
