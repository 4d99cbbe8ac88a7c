use Rattle.std.proofs.Common.{◌≡◌, length}
use Rattle.span_verdict.specs.Flaws.{rows_flaw}
use Rattle.span_verdict.proofs.flawing.rows_flaw.Given as goal

-- the rows before those that are left have no flaw
abbrev pub invariant-loop-row : goal.invariant-loop-row
invariant-loop-row l = rows_flaw l.setup l.span l.table.rows l.rest ≡ rows_flaw l.setup l.span l.table.rows l.fn.rows

abbrev pub decreases-loop-row : goal.decreases-loop-row
decreases-loop-row l = length l.rest
