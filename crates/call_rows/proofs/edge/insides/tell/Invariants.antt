use Rattle.std.proofs.Common.{◌≡◌, false}
use Rattle.call_rows.proofs.edge.insides.tell.Given as goal

abbrev pub invariant-loop-clock : goal.invariant-loop-clock
invariant-loop-clock g l = g.T.Trace.has_failed l.trace ≡ false
