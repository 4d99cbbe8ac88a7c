use Rattle.std.proofs.Common.{◌≡◌, ◌∙◌, ℕ, pos, ap, sym, rules, true, Ok, Some, None, to_z, w32, subst}
use Rattle.pio_expr.specs.declared.symbol.Symbol.TheVariants.{Define, Label}
use Rattle.pio_expr.specs.Values.{found, Gives}
use Rattle.pio_expr.proofs.Finding.{found_is_there}
use Rattle.pio_expr.proofs.Naming.{name_unknown, name_label, name_define}
use Rattle.pio_expr.proofs.scope.Scope.value_of_name.Goals as goal

pub work_out-requires-clause-own : goal.work_out-requires-clause-own
work_out-requires-clause-own c =
    let at : found c.self.inside.symbols true c.args.name.now ≡ Some (c.in-Some-default-Define.place, Define c.items.result.now) = search rules in
    found_is_there c.self.inside.symbols true c.args.name.now c.in-Some-default-Define.place (Define c.items.result.now) at

pub returns-in-None-clause-value : goal.returns-in-None-clause-value
returns-in-None-clause-value c =
    let none : found c.args.self.now true c.args.name.now ≡ None = search rules in
    name_unknown c.args.self.now c.args.name.now c.unknown.result none c.unknown.ensures

pub returns-in-Some-default-Label-clause-value : goal.returns-in-Some-default-Label-clause-value
returns-in-Some-default-Label-clause-value c =
    let words : ℕ = c.in-Some-default-Label.words in
    let at : found c.args.self.now true c.args.name.now ≡ Some (c.in-Some-default-Label.field-0-0, Label words) = search rules in
    let same : pos words ≡ to_z w32 words = search rules in
    name_label c.args.self.now c.args.name.now c.in-Some-default-Label.field-0-0 words at ∙ ap Ok same

pub returns-in-Some-default-Define-clause-value : goal.returns-in-Some-default-Define-clause-value
returns-in-Some-default-Define-clause-value c =
    let at : found c.args.self.now true c.args.name.now ≡ Some (c.in-Some-default-Define.place, Define c.items.result.now) = search rules in
    subst (λ answer. Gives c.work_out.result answer) (sym (name_define c.args.self.now c.args.name.now c.in-Some-default-Define.place c.items.result.now at)) (rw c.self.view_is at c.work_out.ensures.value)
