use Rattle.std.proofs.Common.{◌≡◌, ◌+◌, ◌≤◌, ℕ, take, drop, length}
use Rattle.span_bounds.specs.Edges.{nexts_at}
use Rattle.span_bounds.specs.Reach.{SweepAtRow, room}
use Rattle.span_bounds.proofs.reach.visit_row.Given as goal

-- the nexts so far are held
abbrev pub invariant-loop-next : goal.invariant-loop-next
invariant-loop-next g l = record {
  items : l.next-items ≡ nexts_at l.setup l.span l.number l.fn.ages;
  visit : SweepAtRow l.setup l.span l.grid l.waiting.numbers l.number l.fn.ages (take l.next-index l.next-items);
  room : room l.grid + length l.waiting.numbers ≤ room l.fn.grid + length l.fn.waiting.numbers;
  space : l.waiting.room ≡ l.fn.waiting.room;
}

abbrev pub invariant-loop-later : goal.invariant-loop-later
invariant-loop-later g l = record {
  done : ℕ;
  left : l.rest ≡ drop done (nexts_at l.setup l.span l.number l.fn.ages);
  visit : SweepAtRow l.setup l.span l.grid l.waiting.numbers l.number l.fn.ages (take done (nexts_at l.setup l.span l.number l.fn.ages));
  room : room l.grid + length l.waiting.numbers ≤ room l.fn.grid + length l.fn.waiting.numbers;
  space : l.waiting.room ≡ l.fn.waiting.room;
}

abbrev pub decreases-loop-later : goal.decreases-loop-later
decreases-loop-later g l = length l.rest
