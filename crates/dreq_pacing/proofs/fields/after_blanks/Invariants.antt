use Rattle.std.proofs.Common.{◌≡◌, drop}
use Rattle.dreq_pacing.specs.Fields.{rest_of}
use Rattle.dreq_pacing.proofs.fields.after_blanks.Given as goal

-- only blanks came before
abbrev pub invariant-loop-at : goal.invariant-loop-at
invariant-loop-at l = rest_of (drop l.at l.text) ≡ rest_of l.text
