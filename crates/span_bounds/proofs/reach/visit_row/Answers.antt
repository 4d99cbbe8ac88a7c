use Rattle.std.proofs.Common.{◌≡◌, ◌<◌, ◌+◌, length, take, refl, ◌∙◌, sym, arith}
use Rattle.std.proofs.lemmas.List.{take_all}
use Rattle.span_bounds.proofs.Reaching.{SweepAtRow-step, SweepAtRow-begins, SweepAtRow-done, room_raised}
use Rattle.span_bounds.proofs.PlacedNexts.{placed_item}
use Rattle.span_bounds.proofs.RowNexts.{wide_items, all_left, comes_next, none_left}
use Rattle.span_bounds.proofs.reach.visit_row.Goals as goal

pub loop-next-init : goal.loop-next-init
loop-next-init g c = record {
  items = wide_items _ _ _ _ c.row_step.new.found _ c.row_step.ensures.value (sym c.is_wide.ensures ∙ c.if-is_wide.true) c.as_slice-next-items.ensures.value;
  visit = SweepAtRow-begins _ _ _ _ _ _ c.requires.number c.requires.entry c.requires.sweep;
  room = omega arith;
  space = refl;
}

pub number_of-requires : goal.number_of-requires
number_of-requires g c =
    rw c.follow-follow.ensures (placed_item c.args.setup.now c.args.span.now c.args.number c.args.ages _ _ c.next-item.result c.requires.number c.loop-next.invariant.items c.loop-next-test.true c.next-item.is)

pub loop-next-preserved : goal.loop-next-preserved
loop-next-preserved g c =
    let i = c.loop-next.invariant in
    let number = rw c.follow-follow.ensures at c.number_of.ensures.value in
    let below = rw c.follow-follow.ensures at c.number_of.ensures.below in
    record {
      items = i.items;
      visit = SweepAtRow-step _ _ _ _ _ _ _ _ _ _ c.next-item.result _ c.requires.number i.items c.loop-next-test.true c.next-item.is number below i.visit c.raise.ensures.raised;
      room =
          let size : c.number_of.result < length c.loop-next.grid = rw i.visit.sweep.size below in
          omega (arith, i.room, room_raised _ _ _ _ _ _ size c.raise.ensures.raised);
      space = c.raise.ensures.room ∙ i.space;
    }

pub loop-later-init : goal.loop-later-init
loop-later-init g c = record {
  done = 0;
  left = all_left _ _ _ _ c.row_step.new.found _ c.row_step.ensures.value c.nexts-rest.ensures;
  visit = SweepAtRow-begins _ _ _ _ _ _ c.requires.number c.requires.entry c.requires.sweep;
  room = omega arith;
  space = refl;
}

pub number_of-requires-in-Some : goal.number_of-requires-in-Some
number_of-requires-in-Some g c =
    let i = c.loop-later.invariant in
    let n = comes_next _ i.done c.in-Some.later _ _ i.left c.in-Some.ensures.steps in
    rw c.follow-follow.ensures (placed_item c.args.setup.now c.args.span.now c.args.number c.args.ages _ _ c.in-Some.later c.requires.number refl n.below n.here)

pub loop-later-preserved : goal.loop-later-preserved
loop-later-preserved g c =
    let i = c.loop-later.invariant in
    let n = comes_next _ i.done c.in-Some.later _ _ i.left c.in-Some.ensures.steps in
    let number = rw c.follow-follow.ensures at c.number_of-in-Some.ensures.value in
    let below = rw c.follow-follow.ensures at c.number_of-in-Some.ensures.below in
    record {
      done = i.done + 1;
      left = n.after;
      visit = SweepAtRow-step _ _ _ _ _ _ _ _ _ _ c.in-Some.later _ c.requires.number refl n.below n.here number below i.visit c.raise-in-Some.ensures.raised;
      room =
          let size : c.number_of-in-Some.result < length c.loop-later.grid = rw i.visit.sweep.size below in
          omega (arith, i.room, room_raised _ _ _ _ _ _ size c.raise-in-Some.ensures.raised);
      space = c.raise-in-Some.ensures.room ∙ i.space;
    }

pub returns-after-loop-next-clause-sweep : goal.returns-after-loop-next-clause-sweep
returns-after-loop-next-clause-sweep g c = let i = c.loop-next.invariant in
    let all : take c.loop-next.next-index c.as_slice-next-items.result.now ≡ c.as_slice-next-items.result.now = take_all _ _ (omega arith) in
    SweepAtRow-done _ _ _ _ _ c.args.ages (rw (all, i.items) at i.visit)

pub returns-in_default-clause-sweep : goal.returns-in_default-clause-sweep
returns-in_default-clause-sweep g c =
    let i = c.loop-later.invariant in
    let all = none_left _ i.done _ i.left c.in_default.ensures.steps.0 in
    SweepAtRow-done _ _ _ _ _ c.args.ages (rw all at i.visit)
