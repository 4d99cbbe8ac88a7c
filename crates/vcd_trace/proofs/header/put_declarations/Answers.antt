use Rattle.std.proofs.Common.{◌∙◌, arith, rules}
use Rattle.vcd_trace.specs.declared.header.TheConstants.{GROUPS}
use Rattle.vcd_trace.proofs.HeaderLaws.{groups_text-all, groups_text-none, groups_text-turn, count_from-all, count_from-turn}
use Rattle.pio_edge.proofs.PutLaws.{takes_failed, going_begins, going_on}
use Rattle.vcd_trace.proofs.TextLaws.{going_done}
use Rattle.vcd_trace.proofs.header.put_declarations.Goals as goal

pub loop-group-init : goal.loop-group-init
loop-group-init g c = record {
  going = rw (groups_text-all c.args.first) (going_begins _ _);
  counts = search rules;
  room = rw count_from-all;
}

pub returns-in_err-put_group-clause-bytes : goal.returns-in_err-put_group-clause-bytes
returns-in_err-put_group-clause-bytes g c =
    let l = c.loop-group in
    takes_failed _ _ _ _ _ _ _ c.from_residual.result l.invariant.going (groups_text-turn l.id l.group-index GROUPS c.loop-group-test.true) c.from_residual.ensures.0 c.in_err-put_group.ensures.bytes

pub loop-group-preserved : goal.loop-group-preserved
loop-group-preserved g c =
    let l = c.loop-group in
    let turn = count_from-turn l.group-index GROUPS c.loop-group-test.true in
    record {
      going = going_on _ _ _ _ _ _ _ l.invariant.going (groups_text-turn l.id l.group-index GROUPS c.loop-group-test.true) c.in_ok-put_group.ensures.bytes;
      counts = c.in_ok-put_group.ensures.cause.ok ∙ l.invariant.counts;
      room = omega (arith, turn, l.invariant.room);
    }

pub put_group-requires-clause-ids : goal.put_group-requires-clause-ids
put_group-requires-clause-ids g c =
    let l = c.loop-group in
    omega (arith, count_from-turn l.group-index GROUPS c.loop-group-test.true, l.invariant.room, c.requires)

pub overflow_add-id : goal.overflow_add-id
overflow_add-id g c =
    let l = c.loop-group in
    omega (arith, count_from-turn l.group-index GROUPS c.loop-group-test.true, l.invariant.room, c.requires)

pub returns-clause-bytes : goal.returns-clause-bytes
returns-clause-bytes g c =
    let l = c.loop-group in
    going_done _ _ _ _ l.invariant.going (groups_text-none l.id l.group-index GROUPS c.loop-group-test.false)
