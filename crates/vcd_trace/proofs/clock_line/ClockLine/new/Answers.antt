use Rattle.std.proofs.Common.{arith}
use Rattle.vcd_trace.proofs.ClockLaws.{kept-anew}
use Rattle.vcd_trace.proofs.clock_line.ClockLine.new.Goals as goal

pub invariant_of-result : goal.invariant_of-result
invariant_of-result c =
    let w = c.write_clock-start in
    kept-anew w.new.line w.result 100 (omega arith) (omega arith) w.ensures.within w.ensures.text
