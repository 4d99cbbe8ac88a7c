use Rattle.std.proofs.Common.{rules}
use Rattle.command_line.proofs.Values.{text_or_empty}
use Rattle.command_line.proofs.getters.text.Goals as goal

pub returns : goal.returns
returns c =
    rw c.unwrap_or.ensures (text_or_empty _ _ _ c.option_text.ensures (search rules))
