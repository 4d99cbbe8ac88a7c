use Rattle.std.proofs.Common.{◌≡◌, ◌∙◌, sym, rules, Ok, Err, Some, None, slice_get}
use Rattle.pio_expr.specs.Turns.{opening}
use Rattle.pio_expr.proofs.Operands.{opening_fault, opening_more, opening_value, opening_inside, opening_none, value_token, token_items, token_of_all, opening_outside}
use Rattle.pio_expr.proofs.postfix.ExprReading.operand.Goals as goal

pub token_item-requires-clause-token : goal.token_item-requires-clause-token
token_item-requires-clause-token c =
    let h : slice_get c.args.tokens.now c.args.at ≡ Some c.in-Some.token = search rules in
    token_of_all c.args.source.now c.args.tokens.now c.args.at c.in-Some.token h c.requires.tokens

pub token_item-requires-clause-value : goal.token_item-requires-clause-value
token_item-requires-clause-value c =
    let e : opening c.args.mark c.args.at c.args.self.now.waiting.items ≡ Ok None = search rules in
    let h : slice_get c.args.tokens.now c.args.at ≡ Some c.in-Some.token = search rules in
    value_token c.args.tokens.now c.args.at c.in-Some.token h (sym (opening_none c.args.self.now.waiting.items c.args.mark c.args.at e) ∙ c.requires.mark)

pub returns-in_ok-push_front-in-Ok-Some-clause-ok : goal.returns-in_ok-push_front-in-Ok-Some-clause-ok
returns-in_ok-push_front-in-Ok-Some-clause-ok c =
    let e : opening c.args.mark c.args.at c.args.self.now.waiting.items ≡ Ok (Some c.in-Ok-Some.opening) = search rules in
    let more = opening_more c.args.source.now c.args.tokens.now c.args.self.now.waiting.items c.args.mark (record { at = c.args.at; items = c.args.self.now.items.items }) c.in-Ok-Some.opening c.requires.mark e in
    rw (c.in_ok-push_front-in-Ok-Some.ensures.items) more.0

pub returns-in_ok-push_front-in-Ok-Some-clause-sound : goal.returns-in_ok-push_front-in-Ok-Some-clause-sound
returns-in_ok-push_front-in-Ok-Some-clause-sound c =
    let e : opening c.args.mark c.args.at c.args.self.now.waiting.items ≡ Ok (Some c.in-Ok-Some.opening) = search rules in
    let more = opening_more c.args.source.now c.args.tokens.now c.args.self.now.waiting.items c.args.mark (record { at = c.args.at; items = c.args.self.now.items.items }) c.in-Ok-Some.opening c.requires.mark e in
    rw (c.in_ok-push_front-in-Ok-Some.ensures.items) (more.1 c.requires.sound)

pub returns-in_ok-push_front-in-Ok-Some-clause-inside : goal.returns-in_ok-push_front-in-Ok-Some-clause-inside
returns-in_ok-push_front-in-Ok-Some-clause-inside c =
    let e : opening c.args.mark c.args.at c.args.self.now.waiting.items ≡ Ok (Some c.in-Ok-Some.opening) = search rules in
    opening_inside c.args.tokens.now c.args.self.now.waiting.items c.args.mark c.args.at (Some c.in-Ok-Some.opening) c.requires.mark e

pub returns-in_ok-push-in-Ok-None-clause-ok : goal.returns-in_ok-push-in-Ok-None-clause-ok
returns-in_ok-push-in-Ok-None-clause-ok c =
    let e : opening c.args.mark c.args.at c.args.self.now.waiting.items ≡ Ok None = search rules in
    let h : slice_get c.args.tokens.now c.args.at ≡ Some c.in-Some.token = search rules in
    let read = opening_value c.args.source.now c.args.tokens.now c.args.self.now.waiting.items c.args.mark (record { at = c.args.at; items = c.args.self.now.items.items }) c.requires.mark e in
    let item = token_items c.args.source.now c.args.tokens.now c.args.at c.in-Some.token h in
    rw (c.in_ok-push-in-Ok-None.ensures.items, c.in_ok-token_item-in-Ok-None.ensures.ok) (rw item at read)

pub returns-in_ok-push-in-Ok-None-clause-inside : goal.returns-in_ok-push-in-Ok-None-clause-inside
returns-in_ok-push-in-Ok-None-clause-inside c =
    let e : opening c.args.mark c.args.at c.args.self.now.waiting.items ≡ Ok None = search rules in
    opening_inside c.args.tokens.now c.args.self.now.waiting.items c.args.mark c.args.at None c.requires.mark e

pub returns-in-Err-clause-fault : goal.returns-in-Err-clause-fault
returns-in-Err-clause-fault c =
    let e : opening c.args.mark c.args.at c.args.self.now.waiting.items ≡ Err c.in-Err.refusal = search rules in
    opening_fault c.args.source.now c.args.tokens.now c.args.self.now.waiting.items c.args.mark (record { at = c.args.at; items = c.args.self.now.items.items }) c.in-Err.refusal _ c.told-in-Err.ensures c.requires.mark e

pub returns-in_default-clause-fault : goal.returns-in_default-clause-fault
returns-in_default-clause-fault c =
    let h : slice_get c.args.tokens.now c.args.at ≡ None = search rules in
    rw (c.told.ensures, c.refusal.ensures) (opening_outside c.args.source.now c.args.tokens.now c.args.self.now.waiting.items (record { at = c.args.at; items = c.args.self.now.items.items }) h)
