use Rattle.std.proofs.Common.{◌∙◌, inr, sym}
use Rattle.command_line.specs.Words.{asked_by}
use Rattle.command_line.proofs.Causes.{asks}
use Rattle.command_line.proofs.orders.read.Goals as goal

pub returns-then-has_no_room-clause-cause : goal.returns-then-has_no_room-clause-cause
returns-then-has_no_room-clause-cause c = inr (
  asked_by c.order_of-order.result,
  asks _ _ _ c.in_ok-matches.ensures.passed c.in_ok-matches.ensures.rows c.order_of-order.ensures,
  sym c.has_no_room.ensures ∙ c.if-has_no_room.true,
)

pub returns-then-has_no_room-clause-taken : goal.returns-then-has_no_room-clause-taken
returns-then-has_no_room-clause-taken c = λ taken same.
    let order = asks _ _ _ c.in_ok-matches.ensures.passed c.in_ok-matches.ensures.rows c.order_of-order.ensures in
    let room = taken.room _ order.asked in
    cc

pub returns-clause-ok : goal.returns-clause-ok
returns-clause-ok c = asks _ _ _ c.in_ok-matches.ensures.passed c.in_ok-matches.ensures.rows c.order_of-order.ensures
