use Rattle.std.proofs.Common.{◌≡◌}
use Rattle.machine_rows.proofs.blocks.run.Given as goal

-- the ports and the block are at this clock
abbrev pub invariant-loop-clock : goal.invariant-loop-clock
invariant-loop-clock g l = record {
  ports : l.ports.next ≡ l.clock;
  block : l.block.run.clock ≡ l.clock;
}
