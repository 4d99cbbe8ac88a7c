use Rattle.pio_expr.proofs.Ending.{new_holds}
use Rattle.pio_expr.proofs.work.Work.new.Goals as goal

pub returns-clause-ok : goal.returns-clause-ok
returns-clause-ok c =
    new_holds c.args.symbols.now c.args.kept.now.entries c.args.own c.args.items.now _ c.requires.own c.requires.kept c.requires.unique c.requires.new
    c.new.ensures.place c.new.ensures.local c.new.ensures.rest c.new.ensures.numbers c.new-2.ensures.items c.in_ok-begun_with.ensures.ok
