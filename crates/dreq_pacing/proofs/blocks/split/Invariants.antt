use Rattle.std.proofs.Common.{◌≡◌, ◌++◌, length}
use Rattle.std.specs.Vec.Iter.{into_iter_items, into_iter_len}
use Rattle.dreq_pacing.specs.Lines.{IsScheduleOf}
use Rattle.dreq_pacing.specs.Blocks.{block_lines}
use Rattle.dreq_pacing.proofs.blocks.split.Given as goal

-- the lines of each block so far, with those that are left
abbrev pub invariant-loop-line : goal.invariant-loop-line
invariant-loop-line l = record {
  can : (goal.iterator-loop-line).can_next l.line-iterator;
  ends : (goal.iterator-loop-line).is_finite l.line-iterator;
  first : l.first.items ++ block_lines 0 (into_iter_items l.line-iterator) ≡ block_lines 0 l.fn.lines.items;
  second : l.second.items ++ block_lines 4 (into_iter_items l.line-iterator) ≡ block_lines 4 l.fn.lines.items;
  counted : into_iter_len l.line-iterator ≡ length (into_iter_items l.line-iterator);
  left : IsScheduleOf 8 (into_iter_items l.line-iterator);
}
