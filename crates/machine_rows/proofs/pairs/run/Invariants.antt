use Rattle.std.proofs.Common.{◌≡◌}
use Rattle.machine_rows.proofs.pairs.run.Given as goal

-- the ports and both blocks are at this clock
abbrev pub invariant-loop-clock : goal.invariant-loop-clock
invariant-loop-clock g l = record {
  first : l.first_ports.next ≡ l.clock;
  second : l.second_ports.next ≡ l.clock;
  twin : l.twin.twin.first.clock ≡ l.clock;
}
