use Rattle.std.proofs.Common.{◌≡◌, ◌++◌, length}
use Rattle.pio_expr.specs.Turns.{all_before, kept_before}
use Rattle.pio_expr.proofs.postfix.ExprReading.write_before.Given as goal

abbrev pub invariant-loop-item : goal.invariant-loop-item
invariant-loop-item l = record {
  items : l.self.items.items ++ all_before l.self.waiting.items l.mark ≡ l.initial.self.items.items ++ all_before l.initial.self.waiting.items l.mark;
  waiting : kept_before l.self.waiting.items l.mark ≡ kept_before l.initial.self.waiting.items l.mark;
}

abbrev pub decreases-loop-item : goal.decreases-loop-item
decreases-loop-item l = length l.self.waiting.items
