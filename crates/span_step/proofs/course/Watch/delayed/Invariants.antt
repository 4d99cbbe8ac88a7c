use Rattle.std.proofs.Common.{◌≡◌}
use Rattle.span_step.specs.Courses.{followed, delay_ticks}
use Rattle.span_step.proofs.course.Watch.delayed.Given as goal

-- the watch is that after as many ticks of the delay
abbrev pub invariant-loop-tick : goal.invariant-loop-tick
invariant-loop-tick l = l.watch ≡ followed l.rules (delay_ticks l._tick) l.fn.self
