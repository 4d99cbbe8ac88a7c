use Rattle.std.proofs.Common.{◌≡◌, ◌≤◌, ℕ, length, take, drop}
use Rattle.span_bounds.specs.Edges.{nexts_at}
use Rattle.span_bounds.specs.Take.{TakesRow, work_left}
use Rattle.span_bounds.proofs.take.take_row.Given as goal

-- the nexts so far are done
abbrev pub invariant-loop-next : goal.invariant-loop-next
invariant-loop-next g l = record {
  items : l.next-items ≡ nexts_at l.setup l.span l.number l.fn.ages;
  takes : TakesRow l.setup l.span l.left l.table l.missing l.ready.numbers l.number l.fn.ages (take l.next-index l.next-items) (drop l.next-index l.next-items);
  work : work_left l.missing l.ready.numbers ≤ work_left l.fn.missing l.fn.ready.numbers;
  kept : l.ready.room ≡ l.fn.ready.room;
}

abbrev pub invariant-loop-later : goal.invariant-loop-later
invariant-loop-later g l = record {
  done : ℕ;
  left : l.rest ≡ drop done (nexts_at l.setup l.span l.number l.fn.ages);
  takes : TakesRow l.setup l.span l.left l.table l.missing l.ready.numbers l.number l.fn.ages (take done (nexts_at l.setup l.span l.number l.fn.ages)) (drop done (nexts_at l.setup l.span l.number l.fn.ages));
  work : work_left l.missing l.ready.numbers ≤ work_left l.fn.missing l.fn.ready.numbers;
  kept : l.ready.room ≡ l.fn.ready.room;
}

abbrev pub decreases-loop-later : goal.decreases-loop-later
decreases-loop-later g l = length l.rest
