use Rattle.std.proofs.Common.{◌≡◌, List, ℕ, ℤ, Result, nat_eq, length}
use Rattle.std.specs.HashSet.{contains}
use Rattle.pio_expr.specs.declared.fault.ValueKind.{ValueKind}
use Rattle.pio_expr.specs.Values.{worked_out}
use Rattle.pio_expr.specs.Frames.{looked_up, Agrees}
use Rattle.pio_expr.proofs.frame.StackFrame.run.Given as goal

abbrev pub invariant-loop-item : goal.invariant-loop-item
invariant-loop-item l = record {
  goes : (named : List ℕ → Result ℤ ValueKind) → Agrees (looked_up l.symbols l.kept.entries (contains nat_eq l.under) l.initial.self.local) named → worked_out named l.initial.self.rest.now l.initial.self.numbers.items ≡ worked_out named l.self.rest.now l.self.numbers.items;
  place : l.self.place ≡ l.initial.self.place;
  local : l.self.local ≡ l.initial.self.local;
}

abbrev pub decreases-loop-item : goal.decreases-loop-item
decreases-loop-item l = length l.self.rest.now
