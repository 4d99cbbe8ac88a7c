use Rattle.idle_engine.proofs.Courses.{twin-course}
use Rattle.idle_engine.proofs.simulation.simulate_twin.Goals as goal

pub run-requires-clause-course : goal.run-requires-clause-course
run-requires-clause-course g c =
    twin-course c.args.twin.now.twin c.args.first.now c.args.second.now c.new.result c.new-2.result c.requires.fresh_first c.requires.fresh_second c.new.ensures c.new-2.ensures

pub returns-clause-most : goal.returns-clause-most
returns-clause-most g c = rw c.new.ensures at (rw c.new-2.ensures at c.run.ensures.most)
