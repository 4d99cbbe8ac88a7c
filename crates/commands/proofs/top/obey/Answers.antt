use Rattle.std.proofs.Common.{sym, subst}
use Rattle.command_line.specs.declared.order.Order.{Order}
use Rattle.commands.specs.Obeys.{Obeys}
use Rattle.commands.proofs.top.obey.Goals as goal

pub returns-in-Gen : goal.returns-in-Gen
returns-in-Gen g c =
    subst (λ (o : Order). Obeys o g.F.Shelf g.O.Sink c.args.shelf.now c.generate.new.shelf c.args.out.now c.generate.new.out
    c.args.steps.now c.generate.new.steps c.generate.result) (sym c.in-Gen.is) c.generate.ensures
