use Rattle.std.proofs.Common.{◌≡◌}
use Rattle.block_shares.specs.Reach.{gathered, leads_from}
use Rattle.block_shares.proofs.reach.after_these.Given as goal

-- what those before this address lead to
abbrev pub invariant-loop-address : goal.invariant-loop-address
invariant-loop-address l = l.after ≡ gathered (leads_from l.setup) l.memory l.set l.address
