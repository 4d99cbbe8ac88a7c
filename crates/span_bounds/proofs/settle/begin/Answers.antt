use Rattle.std.proofs.Common.{◌≡◌, ◌<◌, sym, ◌∙◌, arith}
use Rattle.span_bounds.specs.Numbers.{contexts_of}
use Rattle.span_bounds.proofs.Settling.{Begun-starts, Begun-all, Begun-ends, IsBegun-step, begun_room}
use Rattle.span_bounds.proofs.settle.begin.Goals as goal

pub loop-number-init : goal.loop-number-init
loop-number-init c = record {
  begun = record { table = c.args.table.now; taken = c.requires.taken; begun = Begun-starts _ _ _ _ _ c.requires.taken c.requires.waiting };
  room = c.requires.room;
  end = c.requires.end;
  rest = c.requires.rest;
}

pub begin_number-requires-clause-number : goal.begin_number-requires-clause-number
begin_number-requires-clause-number c = omega (arith, c.loop-number-test.true, c.end-number-end.ensures.within)

pub begin_number-requires-clause-size : goal.begin_number-requires-clause-size
begin_number-requires-clause-size c = c.loop-number.invariant.begun.begun.keeps.under.size ∙ sym c.requires.taken.left.size

pub begin_number-requires-clause-room : goal.begin_number-requires-clause-room
begin_number-requires-clause-room c =
    let i = c.loop-number.invariant in
    omega (arith, begun_room _ _ _ _ _ _ i.begun, i.room, c.loop-number-test.true, c.end-number-end.ensures.within, c.requires.taken.left.size)

pub loop-number-preserved : goal.loop-number-preserved
loop-number-preserved c =
    let i = c.loop-number.invariant in
    let below : c.loop-number.number < contexts_of c.args.span.now = omega (arith, c.loop-number-test.true, c.end-number-end.ensures.within, c.requires.taken.left.size) in
    record {
      begun = IsBegun-step _ _ _ _ _ _ _ _ below i.begun (rw c.age_cap-cap.ensures.value at c.begin_number.ensures.begun);
      room = c.begin_number.ensures.room ∙ i.room;
      end = c.begin_number.ensures.end ∙ i.end;
      rest = c.begin_number.ensures.rest ∙ i.rest;
    }

pub returns-clause-settling : goal.returns-clause-settling
returns-clause-settling c =
    let i = c.loop-number.invariant in
    let all : c.loop-number.number ≡ c.end-number-end.result = omega (arith, c.loop-number-test.false, c.loop-number.auto.number-end) in
    Begun-ends _ _ _ _ i.begun.table _ _ i.begun.taken i.rest (Begun-all _ _ _ _ i.begun.table _ c.end-number-end.result i.begun.taken c.end-number-end.ensures.within c.end-number-end.ensures.rest (rw all at i.begun.begun))
