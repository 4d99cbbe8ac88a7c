use Rattle.std.proofs.Common.{◌≡◌, ◌≤◌, ℕ, length, take, drop}
use Rattle.span_step.specs.Laws.{cap_of}
use Rattle.span_bounds.specs.Edges.{nexts_at}
use Rattle.span_bounds.specs.Settle.{SettlesRow, ease_left}
use Rattle.span_bounds.proofs.settle.settle_row.Given as goal

-- the nexts so far are done
abbrev pub invariant-loop-next : goal.invariant-loop-next
invariant-loop-next g l = record {
  items : l.next-items ≡ nexts_at l.setup l.span l.number l.fn.ages;
  row : SettlesRow l.setup l.span l.left l.table l.waiting.numbers l.fn.waiting.rest l.number l.fn.ages (take l.next-index l.next-items);
  work : ease_left (cap_of l.setup l.span) l.table l.waiting.numbers ≤ ease_left (cap_of l.setup l.span) l.fn.table l.fn.waiting.numbers;
  rest : l.waiting.rest ≡ l.fn.waiting.rest;
  end : l.waiting.end ≡ l.fn.waiting.end;
  room : l.waiting.room ≡ l.fn.waiting.room;
}

abbrev pub invariant-loop-later : goal.invariant-loop-later
invariant-loop-later g l = record {
  done : ℕ;
  to_come : l.rest ≡ drop done (nexts_at l.setup l.span l.number l.fn.ages);
  row : SettlesRow l.setup l.span l.left l.table l.waiting.numbers l.fn.waiting.rest l.number l.fn.ages (take done (nexts_at l.setup l.span l.number l.fn.ages));
  work : ease_left (cap_of l.setup l.span) l.table l.waiting.numbers ≤ ease_left (cap_of l.setup l.span) l.fn.table l.fn.waiting.numbers;
  rest : l.waiting.rest ≡ l.fn.waiting.rest;
  end : l.waiting.end ≡ l.fn.waiting.end;
  room : l.waiting.room ≡ l.fn.waiting.room;
}

abbrev pub decreases-loop-later : goal.decreases-loop-later
decreases-loop-later g l = length l.rest
