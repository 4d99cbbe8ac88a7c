use Rattle.std.proofs.Common.{◌≡◌, ◌+◌, ◌<◌, length, take, refl, sym, ◌∙◌, arith}
use Rattle.std.proofs.lemmas.List.{take_all}
use Rattle.pin_matrix.specs.Followed.{followed}
use Rattle.span_bounds.specs.Edges.{spot}
use Rattle.span_bounds.proofs.Settling.{SettlesRow-step, SettlesRow-ends, row_room, work_eased}
use Rattle.span_bounds.proofs.PlacedNexts.{placed_item, spot_below}
use Rattle.span_bounds.proofs.RowNexts.{wide_items, all_left, comes_next, none_left}
use Rattle.span_bounds.proofs.settle.settle_row.Goals as goal

pub loop-next-init : goal.loop-next-init
loop-next-init g c = record {
  items = wide_items _ _ _ _ c.row_step.new.found _ c.row_step.ensures.value (sym c.is_wide.ensures ∙ c.if-is_wide.true) c.as_slice-next-items.ensures.value;
  row = c.requires.row;
  work = omega arith;
  rest = refl;
  end = refl;
  room = refl;
}

pub ease-requires-clause-placed : goal.ease-requires-clause-placed
ease-requires-clause-placed g c =
    rw c.follow-follow.ensures (placed_item c.args.setup.now c.args.span.now c.args.number c.args.ages _ _ c.next-item.result c.requires.number c.loop-next.invariant.items c.loop-next-test.true c.next-item.is)

pub ease-requires-clause-below : goal.ease-requires-clause-below
ease-requires-clause-below g c = rw c.follow-follow.ensures c.loop-next.invariant.row.row.keeps.under.size

pub ease-requires-clause-size : goal.ease-requires-clause-size
ease-requires-clause-size g c = let t = c.loop-next.invariant.row.row in t.size ∙ sym t.keeps.under.size

pub ease-requires-clause-room : goal.ease-requires-clause-room
ease-requires-clause-room g c =
    let i = c.loop-next.invariant in
    let few = row_room _ _ _ _ _ _ _ _ _ i.row in
    omega (arith, few, i.room, c.requires.room)

pub loop-next-preserved : goal.loop-next-preserved
loop-next-preserved g c =
    let i = c.loop-next.invariant in
    let below = spot_below c.args.setup.now c.args.span.now c.args.number c.args.ages _ _ c.next-item.result c.requires.number i.items c.loop-next-test.true c.next-item.is in
    let inside : spot (followed c.args.span.now) c.next-item.result < length c.loop-next.table = rw i.row.row.keeps.under.size below in
    let eased = rw c.follow-follow.ensures at c.ease.ensures.eased in
    record {
      items = i.items;
      row = SettlesRow-step _ _ _ _ _ _ _ _ _ _ _ _ _ c.next-item.result i.items c.loop-next-test.true c.next-item.is below c.requires.number i.row eased;
      work = omega (arith, i.work, work_eased c.args.setup.now c.args.span.now c.args.number c.args.ages _ _ c.next-item.result _ _ _ _ _ _ i.items c.loop-next-test.true c.next-item.is inside eased);
      rest = c.ease.ensures.rest ∙ i.rest;
      end = c.ease.ensures.end ∙ i.end;
      room = c.ease.ensures.room ∙ i.room;
    }

pub returns-after-loop-next-clause-settling : goal.returns-after-loop-next-clause-settling
returns-after-loop-next-clause-settling g c = let i = c.loop-next.invariant in
    let all : take c.loop-next.next-index c.as_slice-next-items.result.now ≡ c.as_slice-next-items.result.now = take_all _ _ (omega arith) in
    SettlesRow-ends _ _ _ _ _ _ _ c.args.ages (rw (all, i.items) at i.row)

pub loop-later-init : goal.loop-later-init
loop-later-init g c = record {
  done = 0;
  to_come = all_left _ _ _ _ c.row_step.new.found _ c.row_step.ensures.value c.nexts-rest.ensures;
  row = c.requires.row;
  work = omega arith;
  rest = refl;
  end = refl;
  room = refl;
}

pub ease-requires-in-Some-clause-placed : goal.ease-requires-in-Some-clause-placed
ease-requires-in-Some-clause-placed g c =
    let i = c.loop-later.invariant in
    let n = comes_next _ i.done c.in-Some.later _ _ i.to_come c.in-Some.ensures.steps in
    rw c.follow-follow.ensures (placed_item c.args.setup.now c.args.span.now c.args.number c.args.ages _ _ c.in-Some.later c.requires.number refl n.below n.here)

pub ease-requires-in-Some-clause-below : goal.ease-requires-in-Some-clause-below
ease-requires-in-Some-clause-below g c = rw c.follow-follow.ensures c.loop-later.invariant.row.row.keeps.under.size

pub ease-requires-in-Some-clause-size : goal.ease-requires-in-Some-clause-size
ease-requires-in-Some-clause-size g c = let t = c.loop-later.invariant.row.row in t.size ∙ sym t.keeps.under.size

pub ease-requires-in-Some-clause-room : goal.ease-requires-in-Some-clause-room
ease-requires-in-Some-clause-room g c =
    let i = c.loop-later.invariant in
    let few = row_room _ _ _ _ _ _ _ _ _ i.row in
    omega (arith, few, i.room, c.requires.room)

pub loop-later-preserved : goal.loop-later-preserved
loop-later-preserved g c =
    let i = c.loop-later.invariant in
    let n = comes_next _ i.done c.in-Some.later _ _ i.to_come c.in-Some.ensures.steps in
    let below = spot_below c.args.setup.now c.args.span.now c.args.number c.args.ages _ _ c.in-Some.later c.requires.number refl n.below n.here in
    let inside : spot (followed c.args.span.now) c.in-Some.later < length c.loop-later.table = rw i.row.row.keeps.under.size below in
    let eased = rw c.follow-follow.ensures at c.ease-in-Some.ensures.eased in
    record {
      done = i.done + 1;
      to_come = n.after;
      row = SettlesRow-step _ _ _ _ _ _ _ _ _ _ _ _ _ c.in-Some.later refl n.below n.here below c.requires.number i.row eased;
      work = omega (arith, i.work, work_eased c.args.setup.now c.args.span.now c.args.number c.args.ages _ _ c.in-Some.later _ _ _ _ _ _ refl n.below n.here inside eased);
      rest = c.ease-in-Some.ensures.rest ∙ i.rest;
      end = c.ease-in-Some.ensures.end ∙ i.end;
      room = c.ease-in-Some.ensures.room ∙ i.room;
    }

pub returns-in_default-clause-settling : goal.returns-in_default-clause-settling
returns-in_default-clause-settling g c =
    let i = c.loop-later.invariant in
    let all = none_left _ i.done _ i.to_come c.in_default.ensures.steps.0 in
    SettlesRow-ends _ _ _ _ _ _ _ c.args.ages (rw all at i.row)
