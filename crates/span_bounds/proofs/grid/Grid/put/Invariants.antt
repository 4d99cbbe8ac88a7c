use Rattle.std.proofs.Common.{◌≡◌, ◌+◌, ◌-◌, ◌≤◌, length, vec_capacity}
use Rattle.span_bounds.specs.Edges.{padded}
use Rattle.span_bounds.proofs.grid.Grid.put.Given as goal

-- the grid is the same while more of it is written
abbrev pub invariant-loop-self : goal.invariant-loop-self
invariant-loop-self l = record {
  size : l.self-inside.size ≡ l.initial.self-inside.size;
  same : padded l.self-inside.size l.self-inside.entries.items ≡ l.fn.self;
  few : length l.self-inside.entries.items ≤ l.self-inside.size;
  room : l.self-inside.size ≤ vec_capacity l.self-inside.entries;
}

abbrev pub decreases-loop-self : goal.decreases-loop-self
decreases-loop-self l = l.number + 1 - length l.self-inside.entries.items
