use Rattle.std.proofs.Common.{◌≡◌}
use Rattle.block_shares.specs.Reach as spec
use Rattle.block_shares.proofs.reach.any_wild.Given as goal

-- one before this address is wild
abbrev pub invariant-loop-address : goal.invariant-loop-address
invariant-loop-address l = l.wild ≡ spec.any_wild l.memory l.set l.address
