use Rattle.std.proofs.Common.{◌≡◌, sym, rules, false}
use Rattle.pio_expr.proofs.postfix.ExprReading.step.Goals as goal

pub returns-then-not-wanted-clause-ok : goal.returns-then-not-wanted-clause-ok
returns-then-not-wanted-clause-ok c =
    let e : c.args.wanted ≡ false = search rules in
    rw e (c.after.ensures.ok c.args.source.now c.args.tokens.now (sym c.mark_at-mark.ensures))

pub returns-then-not-wanted-clause-fault : goal.returns-then-not-wanted-clause-fault
returns-then-not-wanted-clause-fault c =
    let e : c.args.wanted ≡ false = search rules in
    rw e (c.after.ensures.fault c.args.source.now c.args.tokens.now (sym c.mark_at-mark.ensures))
