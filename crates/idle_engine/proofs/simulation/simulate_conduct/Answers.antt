use Rattle.idle_engine.proofs.ConductKind.{conduct-course}
use Rattle.idle_engine.proofs.simulation.simulate_conduct.Goals as goal

pub run-requires-clause-course : goal.run-requires-clause-course
run-requires-clause-course g c =
    conduct-course c.args.block.now.worked.run c.args.block.now.last c.args.schedule.now c.new-ports.result c.requires.fresh c.requires.untold c.new-ports.ensures

pub returns-clause-most : goal.returns-clause-most
returns-clause-most g c = rw c.new-ports.ensures at c.run.ensures.most
