use Rattle.std.proofs.Common.{rules}
use Rattle.commands.proofs.recheck.first_flaw.Goals as goal

-- as the search finds it; a wrong body is refused at once
pub returns-in-Some : goal.returns-in-Some
returns-in-Some c = search rules
