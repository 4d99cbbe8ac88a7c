use Rattle.dreq_pacing.proofs.QuietClocks.{follows_first, follows_due, follows_after}
use Rattle.dreq_pacing.proofs.laws.ports_follow_the_history.Goals as goal

pub returns : goal.returns
returns c = record { first = follows_first; due = follows_due; after = follows_after }
