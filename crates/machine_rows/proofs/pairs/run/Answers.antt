use Rattle.std.proofs.Common.{ℕ, ◌+◌, ap, ◌∙◌}
use Rattle.dreq_pacing.specs.Ports.{Ports}
use Rattle.block_core.specs.Twin.{TwinRun, twin_next}
use Rattle.machine_rows.proofs.pairs.run.Goals as goal

pub loop-clock-preserved : goal.loop-clock-preserved
unfolding twin_next
loop-clock-preserved g c = record {
  first = ap (λ (p : Ports). p.next) c.at-first_due.ensures.after;
  second = ap (λ (p : Ports). p.next) c.at-second_due.ensures.after;
  twin = ap (λ (t : TwinRun). t.first.clock) c.clock.ensures.twin ∙ ap (λ (n : ℕ). n + 1) c.loop-clock.invariant.twin;
}
