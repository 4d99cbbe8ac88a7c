use Rattle.std.proofs.Common.{take}
use Rattle.stages.specs.Spans.{AreJudged}
use Rattle.stages.proofs.spans.judge_spans.Given as goal

-- the spans before this place are judged
abbrev pub invariant-loop-place : goal.invariant-loop-place
invariant-loop-place l = AreJudged l.setup (take l.place l.spans) l.verdicts.found.items l.verdicts.refused
