use Rattle.std.proofs.Common.{rules}
use Rattle.span_verdict.proofs.judging.judge.Goals as goal

-- as the search finds it; a wrong body is refused at once
pub judged-requires-clause-alone : goal.judged-requires-clause-alone
judged-requires-clause-alone c = search rules
