-- Each machine stays at the place of its number.
use Rattle.std.proofs.Common.{arith}
use Rattle.pin_matrix.proofs.Placed.{ids_are_places-set}
use Rattle.pin_matrix.proofs.setup.Setup.place.Goals as goal

pub invariant_of-self : goal.invariant_of-self
invariant_of-self c = record {
  at_their_places = ids_are_places-set 0 c.from.result c.args.machine c.args.self.now.machines (omega arith) c.args.self.now.at_their_places;
}
