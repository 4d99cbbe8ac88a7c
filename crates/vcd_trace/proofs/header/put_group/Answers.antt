use Rattle.std.proofs.Common.{◌∙◌}
use Rattle.vcd_trace.proofs.HeaderLaws.{numbered-turn}
use Rattle.pio_edge.proofs.PutLaws.{takes_failed, going_on}
use Rattle.vcd_trace.proofs.header.put_group.Goals as goal

pub returns-in_err-put_declaration-clause-bytes : goal.returns-in_err-put_declaration-clause-bytes
returns-in_err-put_declaration-clause-bytes g c =
    let a = c.args in
    let l = c.loop-number in
    takes_failed _ _ _ _ _ _ _ c.from_residual.result l.invariant.going (numbered-turn a.first a.letter a.width a.count l.number c.loop-number-test.true) c.from_residual.ensures.0 c.in_err-put_declaration.ensures.bytes

pub loop-number-preserved : goal.loop-number-preserved
loop-number-preserved g c =
    let a = c.args in
    let l = c.loop-number in
    record {
      going = going_on _ _ _ _ _ _ _ l.invariant.going (numbered-turn a.first a.letter a.width a.count l.number c.loop-number-test.true) c.in_ok-put_declaration.ensures.bytes;
      counts = c.in_ok-put_declaration.ensures.cause.ok ∙ l.invariant.counts;
    }
