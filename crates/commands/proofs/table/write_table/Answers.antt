use Rattle.std.proofs.Common.{arith, inl}
use Rattle.commands.specs.Outside.{output_by}
use Rattle.commands.proofs.table.write_table.Goals as goal

pub returns : goal.returns
returns g c =
    inl (omega arith, c.hand_on.ensures (output_by g.O.Sink c.args.out.now) _ c.put_table-put.ensures.bytes c.put_table-put.ensures.cause)
