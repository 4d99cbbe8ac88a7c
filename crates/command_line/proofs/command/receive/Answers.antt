use Rattle.std.proofs.Common.{rules}
use Rattle.command_line.specs.Tool.{receive_app, pin_rule, bit_rule}
use Rattle.command_line.proofs.command.receive.Goals as goal

-- as the search finds it: a refused body is told at once
pub returns : goal.returns
unfolding receive_app pin_rule bit_rule
returns c = search rules
