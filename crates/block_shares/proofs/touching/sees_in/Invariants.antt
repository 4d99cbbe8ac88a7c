use Rattle.std.proofs.Common.{◌≡◌}
use Rattle.block_shares.specs.Shares as spec
use Rattle.block_shares.proofs.touching.sees_in.Given as goal

-- those before this address
abbrev pub invariant-loop-address : goal.invariant-loop-address
invariant-loop-address l = l.sees ≡ spec.sees_in l.memory l.setup l.set l.address
