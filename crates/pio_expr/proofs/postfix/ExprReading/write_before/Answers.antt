use Rattle.std.proofs.Common.{◌≡◌, ◌++◌, ◌∷◌, [], ◌∙◌, ap, sym, rules, append_assoc, append-nil, Some, None}
use Rattle.pio_expr.specs.Turns.{first_before, innermost}
use Rattle.pio_expr.proofs.Unwound.{one_written, one_kept, none_written, none_kept}
use Rattle.pio_expr.proofs.postfix.ExprReading.write_before.Goals as goal

pub loop-item-preserved : goal.loop-item-preserved
loop-item-preserved c =
    let ws = c.loop-item.self.waiting.items in
    let below = c.pop_front.new.self.items in
    let m = c.args.mark in
    let i = c.in-Some.item in
    let first : first_before (innermost ws) m ≡ Some i = search rules in
    record {
      items = rw (c.in_ok-push.ensures.items) (append_assoc c.loop-item.self.items.items (i ∷ []) _ ∙ ap (λ xs. c.loop-item.self.items.items ++ xs) (sym (one_written ws below m i first c.pop_front.ensures.rest)) ∙ c.loop-item.invariant.items);
      waiting = sym (one_kept ws below m i first c.pop_front.ensures.rest) ∙ c.loop-item.invariant.waiting;
    }

pub returns-clause-items : goal.returns-clause-items
returns-clause-items c =
    let ws = c.loop-item.self.waiting.items in
    let none : first_before (innermost ws) c.args.mark ≡ None = search rules in
    sym (append-nil _) ∙ ap (λ xs. c.loop-item.self.items.items ++ xs) (sym (none_written ws c.args.mark none)) ∙ c.loop-item.invariant.items

pub returns-clause-waiting : goal.returns-clause-waiting
returns-clause-waiting c =
    let ws = c.loop-item.self.waiting.items in
    let none : first_before (innermost ws) c.args.mark ≡ None = search rules in
    sym (none_kept ws c.args.mark none) ∙ c.loop-item.invariant.waiting
