-- What is read of a block after its run: words of private clauses.
use Rattle.std.specs.Prelude.{ℕ, List}
use Rattle.dreq_pacing.specs.declared.line.Line.{Line}
use Rattle.block_core.specs.Block.{Run}
use Rattle.block_core.specs.Hosted.{hosted_at, samples}
use Rattle.block_core.specs.Shown.{moved_of}
use Rattle.sample_trace.specs.Edges.{edges_in}
use Rattle.drawn_load.specs.declared.summary.Summary.{Summary}

-- the edges of a run's samples, and what its block says that transfers moved
unfoldable pub counted_run : Run → List Line → ℕ → Summary
counted_run start lines clocks = record {
  clocks = clocks;
  edges_0 = edges_in 0 start.state.levels (samples start lines clocks);
  edges_1 = edges_in 1 start.state.levels (samples start lines clocks);
  edges_3 = edges_in 3 start.state.levels (samples start lines clocks);
  sent = (moved_of 1 (hosted_at start lines clocks).run.state).0;
  got = (moved_of 2 (hosted_at start lines clocks).run.state).1;
}
