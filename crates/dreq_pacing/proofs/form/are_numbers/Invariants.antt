use Rattle.std.proofs.Common.{◌≡◌, length}
use Rattle.dreq_pacing.specs.Form.{are_numbers}
use Rattle.dreq_pacing.proofs.form.are_numbers.Given as goal

-- those left after are numbers
abbrev pub invariant-loop-field : goal.invariant-loop-field
invariant-loop-field l = are_numbers l.rest.fields ≡ are_numbers l.fields.fields

abbrev pub decreases-loop-field : goal.decreases-loop-field
decreases-loop-field l = length l.rest.fields
