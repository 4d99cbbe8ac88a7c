use Rattle.std.proofs.Common.{◌≡◌, [], sym, ◌∙◌, drop, arith}
use Rattle.std.proofs.lemmas.List.{drop_all}
use Rattle.vcd_trace.proofs.UsualLaws.{chain-four, machines_changes-four}
use Rattle.vcd_trace.proofs.usual.write_machines.Goals as goal

pub returns-clause-text : goal.returns-clause-text
returns-clause-text c =
    let last : drop 1246 c.args.room.now ≡ [] = drop_all 1246 c.args.room.now (omega arith) in
    chain-four _ _ _ _ _ _ _ _ _ c.write_where.ensures.text c.write_where-second.ensures.text c.write_where-third.ensures.text c.write_where-fourth.ensures.text last
    ∙ sym (machines_changes-four c.args.before.now c.args.now.now _ _ (omega arith) (omega arith))
