use Rattle.std.proofs.Common.{◌≡◌, ◌++◌, length}
use Rattle.std.specs.Prelude.{option_map}
use Rattle.dreq_pacing.specs.Form.{all_words}
use Rattle.dreq_pacing.proofs.act.read_all.Given as goal

-- the words so far, with those that are left
abbrev pub invariant-loop-field : goal.invariant-loop-field
invariant-loop-field l = option_map (λ ws. l.words.items ++ ws) (all_words l.rest.fields) ≡ all_words l.fields.fields

abbrev pub decreases-loop-field : goal.decreases-loop-field
decreases-loop-field l = length l.rest.fields
