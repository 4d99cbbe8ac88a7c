use Rattle.std.proofs.Common.{◌≡◌, ◌+◌, take, refl, sym, ◌∙◌, arith}
use Rattle.std.proofs.lemmas.List.{take_all}
use Rattle.span_bounds.proofs.Counts.{Counting-begins, Counting-step, Counting-ends, number_fits}
use Rattle.span_bounds.proofs.Passages.{few_passages}
use Rattle.span_bounds.proofs.PlacedNexts.{placed_item}
use Rattle.span_bounds.proofs.RowNexts.{wide_items, all_left, comes_next, none_left}
use Rattle.span_bounds.proofs.count.count_row.Goals as goal

pub join-requires : goal.join-requires
join-requires g c = rw c.requires.before.under.size c.requires.number

pub loop-next-init : goal.loop-next-init
loop-next-init g c = record {
  items = wide_items _ _ _ _ c.row_step.new.found _ c.row_step.ensures.value (sym c.is_wide.ensures ∙ c.if-is_wide.true) c.as_slice-ends.ensures.value;
  counting = Counting-begins _ _ _ _ _ _ _ _ c.requires.reach c.requires.number c.requires.entry c.join.ensures c.requires.before;
}

pub count_next-requires-clause-placed : goal.count_next-requires-clause-placed
count_next-requires-clause-placed g c =
    rw c.follow-follow.ensures (placed_item c.args.setup.now c.args.span.now c.args.number c.args.ages _ _ c.next-item.result c.requires.number c.loop-next.invariant.items c.loop-next-test.true c.next-item.is)

pub count_next-requires-clause-size : goal.count_next-requires-clause-size
count_next-requires-clause-size g c = rw c.follow-follow.ensures c.loop-next.invariant.counting.under.size

pub count_next-requires-clause-numbers : goal.count_next-requires-clause-numbers
count_next-requires-clause-numbers g c = rw c.follow-follow.ensures c.loop-next.invariant.counting.numbers

pub count_next-requires-clause-small : goal.count_next-requires-clause-small
count_next-requires-clause-small g c =
    rw c.follow-follow.ensures (number_fits _ _ _ _ _ _ _ _ _ c.requires.few c.loop-next.invariant.items (few_passages _ _ _ _ c.row_step.new.found _ c.requires.number c.row_step.ensures.value c.as_slice-ends.ensures.value c.as_slice-ends.ensures.fits) c.loop-next.invariant.counting c.requires.number c.next-item.result)

pub loop-next-preserved : goal.loop-next-preserved
loop-next-preserved g c =
    let i = c.loop-next.invariant in
    let below = rw c.follow-follow.ensures at c.count_next.ensures.below in
    let counted = rw (c.follow-follow.ensures, c.is_open.ensures) at c.count_next.ensures.counted in
    record {
      items = i.items;
      counting = Counting-step _ _ _ _ _ _ _ _ _ _ _ c.next-item.result c.requires.reach c.requires.number c.requires.entry i.items c.loop-next-test.true c.next-item.is below i.counting counted;
    }

pub returns-after-loop-next-clause-value : goal.returns-after-loop-next-clause-value
returns-after-loop-next-clause-value g c =
    let i = c.loop-next.invariant in
    let all : take c.loop-next.next-index c.as_slice-ends.result.now ≡ c.as_slice-ends.result.now = take_all _ _ (omega arith) in
    Counting-ends _ _ _ _ _ _ c.args.ages _ c.requires.entry i.items (few_passages _ _ _ _ c.row_step.new.found _ c.requires.number c.row_step.ensures.value c.as_slice-ends.ensures.value c.as_slice-ends.ensures.fits) (rw all at i.counting)

pub loop-later-init : goal.loop-later-init
loop-later-init g c = record {
  done = 0;
  left = all_left _ _ _ _ c.row_step.new.found _ c.row_step.ensures.value c.nexts-rest.ensures;
  counting = Counting-begins _ _ _ _ _ _ _ _ c.requires.reach c.requires.number c.requires.entry c.join.ensures c.requires.before;
}

pub count_next-requires-in-Some-clause-placed : goal.count_next-requires-in-Some-clause-placed
count_next-requires-in-Some-clause-placed g c =
    let i = c.loop-later.invariant in
    let n = comes_next _ i.done c.in-Some.later _ _ i.left c.in-Some.ensures.steps in
    rw c.follow-follow.ensures (placed_item c.args.setup.now c.args.span.now c.args.number c.args.ages _ _ c.in-Some.later c.requires.number refl n.below n.here)

pub count_next-requires-in-Some-clause-size : goal.count_next-requires-in-Some-clause-size
count_next-requires-in-Some-clause-size g c = rw c.follow-follow.ensures c.loop-later.invariant.counting.under.size

pub count_next-requires-in-Some-clause-numbers : goal.count_next-requires-in-Some-clause-numbers
count_next-requires-in-Some-clause-numbers g c = rw c.follow-follow.ensures c.loop-later.invariant.counting.numbers

pub count_next-requires-in-Some-clause-small : goal.count_next-requires-in-Some-clause-small
count_next-requires-in-Some-clause-small g c =
    rw c.follow-follow.ensures (number_fits _ _ _ _ _ _ _ _ c.loop-later.invariant.done c.requires.few refl (few_passages _ _ _ _ c.row_step.new.found _ c.requires.number c.row_step.ensures.value c.as_slice-ends.ensures.value c.as_slice-ends.ensures.fits) c.loop-later.invariant.counting c.requires.number c.in-Some.later)

pub loop-later-preserved : goal.loop-later-preserved
loop-later-preserved g c =
    let i = c.loop-later.invariant in
    let n = comes_next _ i.done c.in-Some.later _ _ i.left c.in-Some.ensures.steps in
    let below = rw c.follow-follow.ensures at c.count_next-in-Some.ensures.below in
    let counted = rw (c.follow-follow.ensures, c.is_open-in-Some.ensures) at c.count_next-in-Some.ensures.counted in
    record {
      done = i.done + 1;
      left = n.after;
      counting = Counting-step _ _ _ _ _ _ _ _ _ _ _ c.in-Some.later c.requires.reach c.requires.number c.requires.entry refl n.below n.here below i.counting counted;
    }

pub returns-in_default-clause-value : goal.returns-in_default-clause-value
returns-in_default-clause-value g c =
    let i = c.loop-later.invariant in
    let all = none_left _ i.done _ i.left c.in_default.ensures.steps.0 in
    Counting-ends _ _ _ _ _ _ c.args.ages _ c.requires.entry refl (few_passages _ _ _ _ c.row_step.new.found _ c.requires.number c.row_step.ensures.value c.as_slice-ends.ensures.value c.as_slice-ends.ensures.fits) (rw all at i.counting)
