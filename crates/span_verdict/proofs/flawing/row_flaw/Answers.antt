use Rattle.std.proofs.Common.{rules}
use Rattle.span_verdict.specs.Flaws.{row_flaw}
use Rattle.span_verdict.proofs.flawing.row_flaw.Goals as goal

-- as the search finds it; a wrong body is refused at once
pub returns-in-Some : goal.returns-in-Some
unfolding row_flaw
returns-in-Some c = search rules
