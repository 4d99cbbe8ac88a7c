-- The divider is in the loop's clock.
use Rattle.std.proofs.Common.{◌≡◌}
use Rattle.machine_rows.proofs.dividers.tell_ticks.Given as goal

abbrev pub invariant-loop-clock : goal.invariant-loop-clock
invariant-loop-clock l = l.divider.clock ≡ l.clock-counter
