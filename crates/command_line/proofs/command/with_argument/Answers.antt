use Rattle.command_line.proofs.Made.{takes_one}
use Rattle.command_line.proofs.command.with_argument.Goals as goal

pub returns : goal.returns
returns c = takes_one _ _ c.arg.result _ c.in_ok-command.was c.arg.ensures
