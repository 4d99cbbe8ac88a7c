use Rattle.std.proofs.Common.{◌≡◌, [], ◌+◌, ◌<◌, length, take, drop, refl, sym, ◌∙◌, arith}
use Rattle.std.proofs.lemmas.List.{take_all, drop_all}
use Rattle.pin_matrix.specs.Followed.{followed}
use Rattle.span_bounds.specs.Edges.{nexts_at, spot}
use Rattle.span_bounds.proofs.Takes.{TakesRow-begins, TakesRow-step, TakesRow-ends, next_waits, work_passed}
use Rattle.span_bounds.proofs.PlacedNexts.{placed_item, spot_below}
use Rattle.span_bounds.proofs.RowNexts.{wide_items, all_left, comes_next, none_left}
use Rattle.span_bounds.proofs.take.take_row.Goals as goal

pub put-requires : goal.put-requires
put-requires g c = rw c.requires.takes.take.left.size c.requires.number

pub loop-next-init : goal.loop-next-init
loop-next-init g c =
    let items : c.as_slice-next-items.result.now ≡ nexts_at c.args.setup.now c.args.span.now c.args.number c.args.ages = wide_items _ _ _ _ c.row_step.new.found _ c.row_step.ensures.value (sym c.is_wide.ensures ∙ c.if-is_wide.true) c.as_slice-next-items.ensures.value in record {
      items = items;
      takes = rw items (TakesRow-begins _ _ _ _ _ _ _ _ _ c.requires.number c.requires.is_ready c.put.ensures c.requires.ages c.requires.takes);
      work = omega arith;
      kept = refl;
    }

pub pass-requires-clause-placed : goal.pass-requires-clause-placed
pass-requires-clause-placed g c =
    rw c.follow-follow.ensures (placed_item c.args.setup.now c.args.span.now c.args.number c.args.ages _ _ c.next-item.result c.requires.number c.loop-next.invariant.items c.loop-next-test.true c.next-item.is)

pub pass-requires-clause-size : goal.pass-requires-clause-size
pass-requires-clause-size g c = rw c.follow-follow.ensures c.loop-next.invariant.takes.taking.keeps.under.size

pub pass-requires-clause-numbers : goal.pass-requires-clause-numbers
pass-requires-clause-numbers g c = let t = c.loop-next.invariant.takes.taking in t.numbers ∙ sym t.keeps.under.size

pub pass-requires-clause-some : goal.pass-requires-clause-some
pass-requires-clause-some g c =
    let i = c.loop-next.invariant in
    let below = spot_below c.args.setup.now c.args.span.now c.args.number c.args.ages _ _ c.next-item.result c.requires.number i.items c.loop-next-test.true c.next-item.is in
    rw c.follow-follow.ensures (next_waits _ _ _ _ _ _ _ _ _ _ c.next-item.result c.loop-next-test.true c.next-item.is below i.takes)

pub pass-requires-clause-room : goal.pass-requires-clause-room
pass-requires-clause-room g c = let i = c.loop-next.invariant in omega (arith, i.work, i.kept, c.requires.room, c.requires.space, c.requires.number)

pub loop-next-preserved : goal.loop-next-preserved
loop-next-preserved g c =
    let i = c.loop-next.invariant in
    let below = spot_below c.args.setup.now c.args.span.now c.args.number c.args.ages _ _ c.next-item.result c.requires.number i.items c.loop-next-test.true c.next-item.is in
    let passed = rw c.follow-follow.ensures at c.pass.ensures.passed in
    record {
      items = i.items;
      takes = TakesRow-step _ _ _ _ _ _ _ _ _ _ _ _ _ c.next-item.result c.loop-next-test.true c.next-item.is below c.requires.number i.takes passed;
      kept = c.pass.ensures.room ∙ i.kept;
      work =
          let inside : spot (followed c.args.span.now) c.next-item.result < length c.loop-next.missing = rw i.takes.taking.numbers below in
          omega (arith, i.work, work_passed (followed c.args.span.now) c.next-item.result _ _ _ _ _ _ inside (next_waits _ _ _ _ _ _ _ _ _ _ c.next-item.result c.loop-next-test.true c.next-item.is below i.takes) passed);
    }

pub returns-after-loop-next-clause-takes : goal.returns-after-loop-next-clause-takes
returns-after-loop-next-clause-takes g c = let i = c.loop-next.invariant in
    let all : take c.loop-next.next-index c.as_slice-next-items.result.now ≡ c.as_slice-next-items.result.now = take_all _ _ (omega arith) in
    let none : drop c.loop-next.next-index c.as_slice-next-items.result.now ≡ [] = drop_all c.loop-next.next-index c.as_slice-next-items.result.now (omega arith) in
    TakesRow-ends _ _ _ _ _ _ _ c.args.ages (rw (all, none, i.items) at i.takes)

pub loop-later-init : goal.loop-later-init
loop-later-init g c = record {
  done = 0;
  left = all_left _ _ _ _ c.row_step.new.found _ c.row_step.ensures.value c.nexts-rest.ensures;
  takes = TakesRow-begins _ _ _ _ _ _ _ _ _ c.requires.number c.requires.is_ready c.put.ensures c.requires.ages c.requires.takes;
  work = omega arith;
  kept = refl;
}

pub pass-requires-in-Some-clause-placed : goal.pass-requires-in-Some-clause-placed
pass-requires-in-Some-clause-placed g c =
    let i = c.loop-later.invariant in
    let n = comes_next _ i.done c.in-Some.later _ _ i.left c.in-Some.ensures.steps in
    rw c.follow-follow.ensures (placed_item c.args.setup.now c.args.span.now c.args.number c.args.ages _ _ c.in-Some.later c.requires.number refl n.below n.here)

pub pass-requires-in-Some-clause-size : goal.pass-requires-in-Some-clause-size
pass-requires-in-Some-clause-size g c = rw c.follow-follow.ensures c.loop-later.invariant.takes.taking.keeps.under.size

pub pass-requires-in-Some-clause-numbers : goal.pass-requires-in-Some-clause-numbers
pass-requires-in-Some-clause-numbers g c = let t = c.loop-later.invariant.takes.taking in t.numbers ∙ sym t.keeps.under.size

pub pass-requires-in-Some-clause-some : goal.pass-requires-in-Some-clause-some
pass-requires-in-Some-clause-some g c =
    let i = c.loop-later.invariant in
    let n = comes_next _ i.done c.in-Some.later _ _ i.left c.in-Some.ensures.steps in
    let below = spot_below c.args.setup.now c.args.span.now c.args.number c.args.ages _ _ c.in-Some.later c.requires.number refl n.below n.here in
    rw c.follow-follow.ensures (next_waits _ _ _ _ _ _ _ _ _ _ c.in-Some.later n.below n.here below i.takes)

pub pass-requires-in-Some-clause-room : goal.pass-requires-in-Some-clause-room
pass-requires-in-Some-clause-room g c = let i = c.loop-later.invariant in omega (arith, i.work, i.kept, c.requires.room, c.requires.space, c.requires.number)

pub loop-later-preserved : goal.loop-later-preserved
loop-later-preserved g c =
    let i = c.loop-later.invariant in
    let n = comes_next _ i.done c.in-Some.later _ _ i.left c.in-Some.ensures.steps in
    let below = spot_below c.args.setup.now c.args.span.now c.args.number c.args.ages _ _ c.in-Some.later c.requires.number refl n.below n.here in
    let passed = rw c.follow-follow.ensures at c.pass-in-Some.ensures.passed in
    record {
      done = i.done + 1;
      left = n.after;
      takes = TakesRow-step _ _ _ _ _ _ _ _ _ _ _ _ _ c.in-Some.later n.below n.here below c.requires.number i.takes passed;
      kept = c.pass-in-Some.ensures.room ∙ i.kept;
      work =
          let inside : spot (followed c.args.span.now) c.in-Some.later < length c.loop-later.missing = rw i.takes.taking.numbers below in
          omega (arith, i.work, work_passed (followed c.args.span.now) c.in-Some.later _ _ _ _ _ _ inside (next_waits _ _ _ _ _ _ _ _ _ _ c.in-Some.later n.below n.here below i.takes) passed);
    }

pub returns-in_default-clause-takes : goal.returns-in_default-clause-takes
returns-in_default-clause-takes g c =
    let i = c.loop-later.invariant in
    let all = none_left _ i.done _ i.left c.in_default.ensures.steps.0 in
    let none = sym i.left ∙ c.in_default.ensures.steps.0 in
    TakesRow-ends _ _ _ _ _ _ _ c.args.ages (rw (all, none) at i.takes)
