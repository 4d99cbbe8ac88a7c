use Rattle.block_core.proofs.TwinRuns.{clocks-twin_from}
use Rattle.block_core.proofs.twin_laws.clocks_of_two_are_counted.Goals as goal

pub returns : goal.returns
returns c = record {
  first = λ start first second clock. (clocks-twin_from start first second clock).0;
  second = λ start first second clock. (clocks-twin_from start first second clock).1;
}
