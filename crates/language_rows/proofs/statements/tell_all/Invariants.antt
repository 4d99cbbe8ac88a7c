use Rattle.std.proofs.Common.{◌≤◌, length}
use Rattle.language_rows.proofs.statements.tell_all.Given as goal

abbrev pub invariant-loop-line : goal.invariant-loop-line
invariant-loop-line l = l.from ≤ length l.tokens
