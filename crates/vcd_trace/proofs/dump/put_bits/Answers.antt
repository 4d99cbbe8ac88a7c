use Rattle.std.proofs.Common.{◌≡◌, ◌+◌, ◌-◌, ap, ◌∙◌, arith}
use Rattle.vcd_trace.specs.Groups.{bit_lines}
use Rattle.vcd_trace.proofs.TextLaws.{bit_lines-turn, bit_lines-none, going_done}
use Rattle.pio_edge.proofs.PutLaws.{takes_failed, going_on}
use Rattle.vcd_trace.proofs.dump.put_bits.Goals as goal

pub returns-in_err-put_bit-clause-bytes : goal.returns-in_err-put_bit-clause-bytes
returns-in_err-put_bit-clause-bytes g c =
    let l = c.loop-step in
    takes_failed _ _ _ _ _ _ _ c.from_residual.result l.invariant.going (bit_lines-turn c.args.first c.args.count l.step l.now c.loop-step-test.true) c.from_residual.ensures.0 c.in_err-put_bit.ensures.bytes

pub loop-step-preserved : goal.loop-step-preserved
loop-step-preserved g c =
    let l = c.loop-step in
    record {
      going = going_on _ _ _ _ _ _ _ l.invariant.going (bit_lines-turn c.args.first c.args.count l.step l.now c.loop-step-test.true) c.in_ok-put_bit.ensures.bytes;
      counts = c.in_ok-put_bit.ensures.cause.ok ∙ l.invariant.counts;
    }

pub returns-clause-bytes : goal.returns-clause-bytes
returns-clause-bytes g c =
    let l = c.loop-step in
    let a = c.args in
    going_done _ _ _ (bit_lines (a.first + l.step) (a.count - l.step) l.now) l.invariant.going
    (ap (λ k. bit_lines (a.first + l.step) k l.now) (let e : a.count - l.step ≡ 0 = omega arith in e) ∙ bit_lines-none (a.first + l.step) l.now)
