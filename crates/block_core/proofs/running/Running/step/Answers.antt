use Rattle.block_core.proofs.OwnPlace.{levels_are_last, directions_are_last}
use Rattle.block_core.proofs.running.Running.step.Goals as goal

pub returns-clause-levels : goal.returns-clause-levels
returns-clause-levels g c =
    levels_are_last c.writes_are_of_pins.ensures c.no_write_changes_nothing.ensures.write c.the_last_write_counts.ensures.pin c.args.pad c.args.due.now c.args.self.now c.step_all.new.self c.step_all.ensures.run

pub returns-clause-directions : goal.returns-clause-directions
returns-clause-directions g c =
    directions_are_last c.writes_are_of_pins.ensures c.no_write_changes_nothing.ensures.write c.the_last_write_counts.ensures.pin c.args.pad c.args.due.now c.args.self.now c.step_all.new.self c.step_all.ensures.run
