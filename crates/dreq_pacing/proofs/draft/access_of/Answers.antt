use Rattle.std.proofs.Common.{rules}
use Rattle.dreq_pacing.proofs.draft.access_of.Goals as goal

pub returns-in-Tx-clause-place : goal.returns-in-Tx-clause-place
returns-in-Tx-clause-place c = search rules
