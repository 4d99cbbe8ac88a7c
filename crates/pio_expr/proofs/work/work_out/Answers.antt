use Rattle.std.proofs.Common.{◌≡◌, rules, Some}
use Rattle.pio_expr.specs.Work.{kept_of}
use Rattle.pio_expr.proofs.Ending.{kept_whole, ended}
use Rattle.pio_expr.proofs.work.work_out.Goals as goal

pub returns-in-Some-clause-value : goal.returns-in-Some-clause-value
returns-in-Some-clause-value c =
    let there : kept_of c.args.kept.now.entries c.args.own ≡ Some c.in-Some.value = search rules in
    let whole = kept_whole c.args.symbols.now c.args.kept.now.entries c.args.own c.args.items.now c.in-Some.value c.requires.own c.requires.kept c.kept_value.ensures.unique there in
    search (rules, whole)

pub returns-in-Some-transpose-clause-value : goal.returns-in-Some-transpose-clause-value
returns-in-Some-transpose-clause-value c = (ended c.args.symbols.now c.args.own c.args.items.now c.loop-answer.kept.entries c.loop-answer.work c.step.new.kept.entries c.step.new.self c.step.result c.in-Some-transpose.answer (c.step.ensures c.args.own c.args.items.now c.loop-answer.invariant) c.in-Some-transpose.ensures).0

pub returns-in-Some-transpose-clause-kept : goal.returns-in-Some-transpose-clause-kept
returns-in-Some-transpose-clause-kept c = (ended c.args.symbols.now c.args.own c.args.items.now c.loop-answer.kept.entries c.loop-answer.work c.step.new.kept.entries c.step.new.self c.step.result c.in-Some-transpose.answer (c.step.ensures c.args.own c.args.items.now c.loop-answer.invariant) c.in-Some-transpose.ensures).1
