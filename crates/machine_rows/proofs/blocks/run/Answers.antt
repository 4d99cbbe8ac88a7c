use Rattle.std.proofs.Common.{ℕ, ◌+◌, ap, ◌∙◌}
use Rattle.dreq_pacing.specs.Ports.{Ports}
use Rattle.block_core.specs.Block.{Run, next}
use Rattle.machine_rows.proofs.blocks.run.Goals as goal

pub loop-clock-preserved : goal.loop-clock-preserved
unfolding next
loop-clock-preserved g c = record {
  ports = ap (λ (p : Ports). p.next) c.at-due.ensures.after;
  block = ap (λ (r : Run). r.clock) c.clock.ensures.run ∙ ap (λ (n : ℕ). n + 1) c.loop-clock.invariant.block;
}
