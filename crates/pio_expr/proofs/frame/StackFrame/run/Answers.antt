use Rattle.std.proofs.Common.{rules, ◌≡◌, ◌∷◌, Ok, Err, nat_eq, ap, sym, ◌∙◌, to_z, of_z, w32}
use Rattle.std.proofs.lemmas.Result.{err_from_is_err_and}
use Rattle.std.specs.HashSet.{contains}
use Rattle.pio_expr.specs.Values.{first_of, number_by, worked_out}
use Rattle.pio_expr.specs.Frames.{looked_up, looked_at, number}
use Rattle.pio_expr.proofs.Workings.{item_agrees, item_fault, goes_on, ends_in, at_end, none_left, fault_on}
use Rattle.pio_expr.proofs.frame.StackFrame.run.Goals as goal

pub returns-in_err-number-clause-shows : goal.returns-in_err-number-clause-shows
returns-in_err-number-clause-shows c named agrees =
    let it = c.in-Some.item.now in
    let ns = c.loop-item.self.numbers.items in
    let look = looked_up c.args.symbols.now c.args.kept.now.entries (contains nat_eq c.args.under.now) c.args.self.now.local in
    let p = err_from_is_err_and c.from_residual.result c.from_residual.ensures.1 in
    rw (p.1, p.2) (fault_on c.in_err-number.field-0.0 (looked_at look it) (worked_out named c.args.self.now.rest.now c.args.self.now.numbers.items) (λ kind looked.
    c.loop-item.invariant.goes named agrees ∙ ap (λ items. worked_out named items ns) c.in-Some.ensures.cases.0
    ∙ ends_in named it c.in-Some.rest.now ns kind (item_fault look named it kind ns agrees looked)) (rw c.loop-item.invariant.local at c.in_err-number.ensures))

pub returns-in-Err-clause-shows : goal.returns-in-Err-clause-shows
returns-in-Err-clause-shows c named agrees =
    let it = c.in-Some.item.now in
    let ns = c.loop-item.self.numbers.items in
    let look = looked_up c.args.symbols.now c.args.kept.now.entries (contains nat_eq c.args.under.now) c.args.self.now.local in
    let looked : looked_at look it ≡ Ok (number c.in-Number.number) = rw (c.loop-item.invariant.local, c.in-Number.is) at c.in_ok-number.ensures in
    let gives : number_by (λ _. Ok c.in-Number.number) it ns ≡ Err c.in-Err.kind = search rules in
    c.loop-item.invariant.goes named agrees ∙ ap (λ items. worked_out named items ns) c.in-Some.ensures.cases.0
    ∙ ends_in named it c.in-Some.rest.now ns c.in-Err.kind (item_agrees look named it c.in-Number.number ns agrees looked ∙ gives)

pub loop-item-preserved : goal.loop-item-preserved
loop-item-preserved c =
    let it = c.in-Some.item.now in
    let ns = c.loop-item.self.numbers.items in
    let look = looked_up c.args.symbols.now c.args.kept.now.entries (contains nat_eq c.args.under.now) c.args.self.now.local in
    let looked : looked_at look it ≡ Ok (number c.in-Number.number) = rw (c.loop-item.invariant.local, c.in-Number.is) at c.in_ok-number.ensures in
    let gives : number_by (λ _. Ok c.in-Number.number) it ns ≡ Ok c.in-Ok.number = search rules in
    let pushed : c.push_front.new.self.items ≡ c.in-Ok.number ∷ c.apply.new.numbers.items = search rules in
    record {
      goes = λ named agrees. c.loop-item.invariant.goes named agrees ∙ ap (λ items. worked_out named items ns) c.in-Some.ensures.cases.0
          ∙ goes_on named it c.in-Some.rest.now ns c.in-Ok.number (item_agrees look named it c.in-Number.number ns agrees looked ∙ gives)
          ∙ ap (λ xs. worked_out named c.in-Some.rest.now (c.in-Ok.number ∷ xs)) (sym c.in-Ok.ensures.left) ∙ ap (λ xs. worked_out named c.in-Some.rest.now xs) (sym pushed);
      place = c.loop-item.invariant.place;
      local = c.loop-item.invariant.local;
    }

pub returns-clause-shows : goal.returns-clause-shows
returns-clause-shows c named agrees =
    let ns = c.loop-item.self.numbers.items in
    let value : Ok (first_of ns) ≡ Ok (to_z w32 (of_z w32 c.take.result)) = search rules in
    c.loop-item.invariant.goes named agrees ∙ ap (λ items. worked_out named items ns) (none_left _ c.in_default.ensures.cases) ∙ at_end named ns ∙ value
