-- Flag by flag, the byte that was made is the merged one.
use Rattle.std.proofs.Common.{rules}
use Rattle.irq_flags.proofs.Bits.{bit_at-merged_flags}
use Rattle.irq_flags.proofs.flags.Flags.merge.Goals as goal

pub returns-clause-each : goal.returns-clause-each
returns-clause-each c = λ i inside.
    rw c.lowered.ensures (bit_at-merged_flags c.args.self.now.up c.args.clears c.args.sets i (search rules) inside)
