use Rattle.std.proofs.Common.{◌≡◌}
use Rattle.block_shares.specs.Reach.{reach_in}
use Rattle.block_shares.proofs.reach.reach_of.Given as goal

-- the addresses got in so many rounds
abbrev pub invariant-loop-round : goal.invariant-loop-round
invariant-loop-round l = l.set ≡ reach_in l.memory l.setup l.round
