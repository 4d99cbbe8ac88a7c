use Rattle.std.proofs.Common.{◌≡◌, ℕ, length, take, drop}
use Rattle.span_bounds.specs.Edges.{nexts_at}
use Rattle.span_bounds.specs.Count.{Counting}
use Rattle.span_bounds.proofs.count.count_row.Given as goal

-- the nexts so far are done
abbrev pub invariant-loop-next : goal.invariant-loop-next
invariant-loop-next g l = record {
  items : l.ends ≡ nexts_at l.setup l.span l.number l.ages;
  counting : Counting l.setup l.span l.reach l.table l.missing l.number l.ages (take l.next-index l.ends);
}

abbrev pub invariant-loop-later : goal.invariant-loop-later
invariant-loop-later g l = record {
  done : ℕ;
  left : l.rest ≡ drop done (nexts_at l.setup l.span l.number l.ages);
  counting : Counting l.setup l.span l.reach l.table l.missing l.number l.ages (take done (nexts_at l.setup l.span l.number l.ages));
}

abbrev pub decreases-loop-later : goal.decreases-loop-later
decreases-loop-later g l = length l.rest
