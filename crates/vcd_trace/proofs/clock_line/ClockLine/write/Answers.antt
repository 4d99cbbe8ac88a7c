use Rattle.std.proofs.Common.{◌++◌, drop, ap, ◌∙◌, arith}
use Rattle.vcd_trace.specs.ClockText.{Line}
use Rattle.vcd_trace.proofs.PlaceLaws.{copied-before}
use Rattle.vcd_trace.proofs.clock_line.ClockLine.write.Goals as goal

pub returns-clause-text : goal.returns-clause-text
returns-clause-text c =
    let l = c.self.inside in
    copied-before 22 c.args.end l.start c.args.room.now c.copy_from_slice.new.self l.room (omega arith) (omega arith) (omega arith) c.self.invariant.within c.copy_from_slice.ensures.after
    ∙ ap (λ (v : Line). v.text ++ drop c.args.end c.args.room.now) c.self.view_is
