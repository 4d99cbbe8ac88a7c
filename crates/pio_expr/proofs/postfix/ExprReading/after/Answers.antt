use Rattle.std.proofs.Common.{◌≡◌, ◌∙◌, rules, Ok, Err}
use Rattle.pio_expr.specs.declared.turn.Turn.TheVariants.{Operation, Closed, End}
use Rattle.pio_expr.specs.Turns.{turn_by, operation_of, innermost}
use Rattle.pio_expr.proofs.Operands.{after_same, after_turn, operation_inside, closed_inside, fault_is}
use Rattle.pio_expr.proofs.postfix.ExprReading.after.Goals as goal

pub returns-in_ok-push_front-in-Ok-Operation-clause-ok : goal.returns-in_ok-push_front-in-Ok-Operation-clause-ok
returns-in_ok-push_front-in-Ok-Operation-clause-ok c source tokens is =
    let m = c.args.mark in
    let at = c.args.at in
    let ws = c.args.self.now.waiting.items in
    let kept = c.write_before.new.self.waiting.items in
    let e : Ok (Operation c.in-Ok-Operation.operation) ≡ turn_by (operation_of m) (innermost kept) m at = search rules in
    let same = after_same source tokens ws kept c.args.self.now.items.items c.write_before.new.self.items.items m at is c.requires.sound c.in_ok-write_before.ensures.waiting c.in_ok-write_before.ensures.items in
    let turn = after_turn source tokens ws kept c.write_before.new.self.items.items m at (Ok (Operation c.in-Ok-Operation.operation)) is c.requires.sound c.in_ok-write_before.ensures.waiting e in
    rw (c.in_ok-push_front-in-Ok-Operation.ensures.items) (same ∙ turn.0, turn.1, operation_inside tokens kept m at c.in-Ok-Operation.operation is e)

pub returns-in-Ok-Closed-clause-ok : goal.returns-in-Ok-Closed-clause-ok
returns-in-Ok-Closed-clause-ok c source tokens is =
    let m = c.args.mark in
    let at = c.args.at in
    let ws = c.args.self.now.waiting.items in
    let kept = c.write_before.new.self.waiting.items in
    let e : Ok Closed ≡ turn_by (operation_of m) (innermost kept) m at = search rules in
    let same = after_same source tokens ws kept c.args.self.now.items.items c.write_before.new.self.items.items m at is c.requires.sound c.in_ok-write_before.ensures.waiting c.in_ok-write_before.ensures.items in
    let turn = after_turn source tokens ws kept c.write_before.new.self.items.items m at (Ok Closed) is c.requires.sound c.in_ok-write_before.ensures.waiting e in
    rw (c.pop_front.ensures.rest) (same ∙ turn.0, turn.1, closed_inside tokens kept m at is e)

pub returns-in-Ok-End-clause-ok : goal.returns-in-Ok-End-clause-ok
returns-in-Ok-End-clause-ok c source tokens is =
    let m = c.args.mark in
    let at = c.args.at in
    let ws = c.args.self.now.waiting.items in
    let kept = c.write_before.new.self.waiting.items in
    let e : Ok End ≡ turn_by (operation_of m) (innermost kept) m at = search rules in
    let same = after_same source tokens ws kept c.args.self.now.items.items c.write_before.new.self.items.items m at is c.requires.sound c.in_ok-write_before.ensures.waiting c.in_ok-write_before.ensures.items in
    same ∙ after_turn source tokens ws kept c.write_before.new.self.items.items m at (Ok End) is c.requires.sound c.in_ok-write_before.ensures.waiting e

pub returns-in-Err-clause-fault : goal.returns-in-Err-clause-fault
returns-in-Err-clause-fault c source tokens is =
    let m = c.args.mark in
    let at = c.args.at in
    let ws = c.args.self.now.waiting.items in
    let kept = c.write_before.new.self.waiting.items in
    let e : Err c.in-Err.refusal ≡ turn_by (operation_of m) (innermost kept) m at = search rules in
    let same = after_same source tokens ws kept c.args.self.now.items.items c.write_before.new.self.items.items m at is c.requires.sound c.in_ok-write_before.ensures.waiting c.in_ok-write_before.ensures.items in
    fault_is _ c.in-Err.refusal _ c.told.ensures (same ∙ after_turn source tokens ws kept c.write_before.new.self.items.items m at (Err c.in-Err.refusal) is c.requires.sound c.in_ok-write_before.ensures.waiting e)
