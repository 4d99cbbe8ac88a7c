use Rattle.std.proofs.Common.{◌≡◌, ℕ, Option, List, false, take}
use Rattle.call_rows.proofs.edge.lent.tell_insides.Given as goal

-- what is inside before this clock was told
abbrev pub invariant-loop-clock : goal.invariant-loop-clock
invariant-loop-clock g l = record {
  whole : g.T.Trace.has_failed l.trace ≡ false;
  told : (b : Option (List ℕ)) → g.T.Trace.ready l.fn.trace b → g.T.Trace.holds l.trace b (take l.clock l.insides) false;
  same : g.T.Trace.name l.trace ≡ g.T.Trace.name l.fn.trace;
}
