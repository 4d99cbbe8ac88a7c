use Rattle.std.proofs.Common.{◌≡◌, ◌+◌, ◌-◌, ◌≤◌, length, vec_capacity}
use Rattle.span_bounds.specs.Edges.{marked_out}
use Rattle.span_bounds.proofs.marks.Marks.put.Given as goal

-- the marks are the same while more of them are written
abbrev pub invariant-loop-self : goal.invariant-loop-self
invariant-loop-self l = record {
  size : l.self-inside.size ≡ l.initial.self-inside.size;
  same : marked_out l.self-inside.size l.self-inside.marks.items ≡ l.fn.self;
  few : length l.self-inside.marks.items ≤ l.self-inside.size;
  room : l.self-inside.size ≤ vec_capacity l.self-inside.marks;
}

abbrev pub decreases-loop-self : goal.decreases-loop-self
decreases-loop-self l = l.number + 1 - length l.self-inside.marks.items
