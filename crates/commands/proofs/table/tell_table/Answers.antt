use Rattle.commands.proofs.TaskDone.{proved_does}
use Rattle.commands.proofs.table.tell_table.Goals as goal

pub returns-in-Proved : goal.returns-in-Proved
returns-in-Proved g c =
    proved_does _ _ _ _ _ _ _ _ _ c.in-Proved.is c.in_ok-verdict.ensures.verdict c.in_ok-verdict.ensures.holds c.write_table.ensures
