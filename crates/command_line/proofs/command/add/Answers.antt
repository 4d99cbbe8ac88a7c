use Rattle.command_line.proofs.Made.{offers_one}
use Rattle.command_line.proofs.command.add.Goals as goal

pub returns : goal.returns
returns c = offers_one _ _ c.subcommand.result _ _ c.in_ok-command.ensures.0 c.in_ok-command.ensures.1 c.subcommand.ensures
