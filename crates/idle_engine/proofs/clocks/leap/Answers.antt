use Rattle.std.proofs.Common.{rules}
use Rattle.idle_engine.proofs.clocks.leap.Goals as goal

-- as the search finds it; a wrong body is refused at once
pub returns-then-begins_or_changes-clause-moves_on : goal.returns-then-begins_or_changes-clause-moves_on
returns-then-begins_or_changes-clause-moves_on g c = search rules steps 300000
