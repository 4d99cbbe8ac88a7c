use Rattle.std.proofs.Common.{◌≡◌, ◌+◌, ◌-◌, ◌≤◌, length, vec_capacity}
use Rattle.span_bounds.specs.Edges.{counted_out}
use Rattle.span_bounds.proofs.tally.Tally.put.Given as goal

-- the counts are the same while more of them are written
abbrev pub invariant-loop-self : goal.invariant-loop-self
invariant-loop-self l = record {
  size : l.self-inside.size ≡ l.initial.self-inside.size;
  same : counted_out l.self-inside.size l.self-inside.counts.items ≡ l.fn.self;
  few : length l.self-inside.counts.items ≤ l.self-inside.size;
  room : l.self-inside.size ≤ vec_capacity l.self-inside.counts;
}

abbrev pub decreases-loop-self : goal.decreases-loop-self
decreases-loop-self l = l.number + 1 - length l.self-inside.counts.items
