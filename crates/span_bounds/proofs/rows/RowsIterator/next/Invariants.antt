use Rattle.std.proofs.Common.{◌-◌, ◌≡◌, ◌≤◌, drop}
use Rattle.span_bounds.specs.Numbers.{contexts}
use Rattle.span_bounds.specs.Tables.{rows_from}
use Rattle.span_bounds.proofs.rows.RowsIterator.next.Given as goal

-- the rows that are left are the same as before
abbrev pub invariant-loop-self : goal.invariant-loop-self
invariant-loop-self l = record {
  same : l.self-inside.grid ≡ l.initial.self-inside.grid;
  follow : l.self-inside.follow ≡ l.initial.self-inside.follow;
  end : l.self-inside.end ≡ contexts l.self-inside.follow;
  near : l.self-inside.number ≤ l.self-inside.end;
  left : rows_from l.self-inside.follow l.self-inside.number (drop l.self-inside.number l.self-inside.grid.now) ≡ l.fn.self;
}

abbrev pub decreases-loop-self : goal.decreases-loop-self
decreases-loop-self l = l.self-inside.end - l.self-inside.number
