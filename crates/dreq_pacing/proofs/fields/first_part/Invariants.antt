use Rattle.std.proofs.Common.{take}
use Rattle.dreq_pacing.proofs.Parts.{IsWord}
use Rattle.dreq_pacing.proofs.fields.first_part.Given as goal

abbrev pub invariant-loop-at : goal.invariant-loop-at
invariant-loop-at l = IsWord (take l.at l.text)
