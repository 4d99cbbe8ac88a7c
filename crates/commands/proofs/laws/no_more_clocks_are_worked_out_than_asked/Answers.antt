use Rattle.commands.proofs.WorkedClocks.{most_asked}
use Rattle.commands.proofs.laws.no_more_clocks_are_worked_out_than_asked.Goals as goal

pub returns : goal.returns
returns c = most_asked c.few_clocks_are_worked_out.ensures.clocks c.few_clocks_are_worked_out.ensures.twin_clocks
