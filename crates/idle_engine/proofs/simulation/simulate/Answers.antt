use Rattle.idle_engine.proofs.Courses.{one-course}
use Rattle.idle_engine.proofs.simulation.simulate.Goals as goal

pub run-requires-clause-course : goal.run-requires-clause-course
run-requires-clause-course g c =
    one-course c.args.block.now.run c.args.schedule.now c.new-ports.result c.requires.fresh c.new-ports.ensures

pub returns-clause-most : goal.returns-clause-most
returns-clause-most g c = rw c.new-ports.ensures at c.run.ensures.most
