use Rattle.std.proofs.Common.{ℕ, ◌≡◌, ◌+◌, ◌-◌, drop, slice_set, arith, ap, ◌∙◌}
use Rattle.vcd_trace.specs.VcdText.{clock_line}
use Rattle.vcd_trace.proofs.ClockLaws.{kept-line, kept-still}
use Rattle.vcd_trace.proofs.clock_line.ClockLine.turn.Goals as goal

pub invariant_of-self : goal.invariant_of-self
invariant_of-self c =
    let l = c.self.inside in
    kept-still l.room l.start l.hundred _ _ c.self.invariant (omega arith)

pub returns-clause-text : goal.returns-clause-text
returns-clause-text c = λ _.
    let l = c.self.inside in
    let last : ℕ = c.args.clock - l.hundred in
    let whole : l.hundred + last ≡ c.args.clock = omega arith in
    ap (λ (d : ℕ × ℕ). drop l.start (slice_set (slice_set l.room 19 d.0) 20 d.1)) c.digits_of-tens.ensures
    ∙ kept-line l.room l.start l.hundred last c.self.invariant (omega arith) (omega arith) (omega arith)
    ∙ ap clock_line whole
