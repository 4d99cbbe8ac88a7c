use Rattle.std.proofs.Common.{◌≡◌}
use Rattle.call_rows.proofs.inputs.ports.tell_clocks.Given as goal

-- each clock is asked of
abbrev pub invariant-loop-clock : goal.invariant-loop-clock
invariant-loop-clock l = l.ports.next ≡ l.clock
