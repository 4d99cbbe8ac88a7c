use Rattle.std.proofs.Common.{◌≡◌, ◌≤◌, ◌+◌, ℕ, length, min, slice_index_or}
use Rattle.std.specs.Int.{bit_at}
use Rattle.sample_trace.specs.Edges.{edge_of, most}
use Rattle.sample_trace.proofs.edges.count.Given as goal

-- each count, with the edge that is still to be counted at its pin, is the old count with its edge
abbrev pub invariant-loop-changed : goal.invariant-loop-changed
invariant-loop-changed l = record {
  long : length l.counts ≡ 32;
  within : (p : ℕ) → slice_index_or l.counts p 0 ≤ most;
  left : (p : ℕ) → min (slice_index_or l.counts p 0 + bit_at l.changed p) most ≡ min (slice_index_or l.initial.counts p 0 + edge_of p l.before l.level) most;
}

abbrev pub decreases-loop-changed : goal.decreases-loop-changed
decreases-loop-changed l = l.changed
