use Rattle.std.proofs.Common.{rules}
use Rattle.commands.proofs.QuietEnds.{files_decide}
use Rattle.commands.proofs.WorkedClocks.{most_of_words}
use Rattle.commands.proofs.top.piotool.Goals as goal

pub returns-clause-complete : goal.returns-clause-complete
returns-clause-complete g c = files_decide _ _ _ (search rules) (search rules)

pub returns-clause-steps : goal.returns-clause-steps
returns-clause-steps g c =
    most_of_words (g.F.Shelf.holds c.args.shelf.now) _ c.args.steps.now c.work.new.steps c.no_more_clocks_are_worked_out_than_asked.ensures c.work.ensures.worked
