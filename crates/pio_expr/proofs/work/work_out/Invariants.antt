use Rattle.pio_expr.specs.Work.{IsRightSoFar, left_to_do, frames_of}
use Rattle.pio_expr.proofs.work.work_out.Given as goal

abbrev pub invariant-loop-answer : goal.invariant-loop-answer
invariant-loop-answer l = IsRightSoFar l.symbols l.kept.entries l.fn.own l.items l.work

abbrev pub decreases-loop-answer : goal.decreases-loop-answer
decreases-loop-answer l = left_to_do l.symbols l.kept.entries (frames_of l.work)
