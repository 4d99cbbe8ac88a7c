use Rattle.std.proofs.Common.{◌≡◌, ◌+◌, ◌≤◌, length}
use Rattle.dreq_pacing.proofs.form.count_to_three.Given as goal

-- those counted, with those that are left
abbrev pub invariant-loop-count : goal.invariant-loop-count
invariant-loop-count l = record {
  whole : l.count + length l.rest.fields ≡ length l.fields.fields;
  most : l.count ≤ 3;
}

abbrev pub decreases-loop-count : goal.decreases-loop-count
decreases-loop-count l = length l.rest.fields
