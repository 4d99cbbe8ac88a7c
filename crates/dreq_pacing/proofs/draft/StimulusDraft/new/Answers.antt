use Rattle.dreq_pacing.proofs.Drafts.{first_is}
use Rattle.dreq_pacing.proofs.draft.StimulusDraft.new.Goals as goal

pub invariant_of-result : goal.invariant_of-result
invariant_of-result c = first_is c.args.machines c.new.result.items c.new.ensures.items c.requires.0 c.requires.1
