use Rattle.std.proofs.Common.{◌≡◌, ◌+◌, ◌-◌, ◌%◌, ◌^◌, ◌<◌, ◌≤◌, false, ◌++◌, drop, length}
use Rattle.std.specs.Fmt.{digits}
use Rattle.vcd_trace.proofs.Digits.{binary_onto}
use Rattle.vcd_trace.proofs.line.write_bits.Given as goal

-- what is left of the value fits the room, and its digits before what is written are the line's
abbrev pub invariant-loop-rest : goal.invariant-loop-rest
invariant-loop-rest l = record {
  low : l.end ≤ l.start + 28;
  high : l.start ≤ l.end;
  fours : (l.start + 32 - l.end) % 4 ≡ 0;
  size : length l.line ≡ length l.initial.line;
  fits : l.rest < 2 ^ (l.start + 32 - l.end);
  text : binary_onto (l.start + 64 - l.end) l.rest (drop l.start l.line) ≡ digits 2 false l.value ++ drop l.end l.initial.line;
}

abbrev pub decreases-loop-rest : goal.decreases-loop-rest
decreases-loop-rest l = l.rest
