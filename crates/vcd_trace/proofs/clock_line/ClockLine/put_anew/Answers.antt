use Rattle.std.proofs.Common.{arith}
use Rattle.vcd_trace.proofs.ClockLaws.{kept-anew}
use Rattle.vcd_trace.proofs.clock_line.ClockLine.put_anew.Goals as goal

pub invariant_of-self : goal.invariant_of-self
invariant_of-self g c =
    let w = c.write_clock-self-inside in
    kept-anew w.new.line w.result c.args.clock (omega arith) (omega arith) w.ensures.within w.ensures.text
