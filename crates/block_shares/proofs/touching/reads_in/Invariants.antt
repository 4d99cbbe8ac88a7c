use Rattle.std.proofs.Common.{◌≡◌}
use Rattle.block_shares.specs.Shares as spec
use Rattle.block_shares.proofs.touching.reads_in.Given as goal

-- those before this address
abbrev pub invariant-loop-address : goal.invariant-loop-address
invariant-loop-address l = l.reads ≡ spec.reads_in l.memory l.setup l.set l.address
