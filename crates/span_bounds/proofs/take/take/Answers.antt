use Rattle.std.proofs.Common.{◌∷◌, refl, inl, length, sym, ap, ◌∙◌, arith}
use Rattle.pin_matrix.specs.Followed.{followed}
use Rattle.span_bounds.specs.Take.{IsTaking}
use Rattle.span_bounds.proofs.Placing.{contexts_some}
use Rattle.span_bounds.proofs.Takes.{Take-starts, IsTaking-pop, IsTaken-ends, AreReady-few}
use Rattle.span_bounds.proofs.take.take.Goals as goal

pub add_ready-requires-clause-numbers : goal.add_ready-requires-clause-numbers
add_ready-requires-clause-numbers g c = c.requires.counted.numbers ∙ sym c.requires.reach.sweep.size

pub add_ready-requires-clause-room : goal.add_ready-requires-clause-room
add_ready-requires-clause-room g c = omega (arith, c.requires.reach.sweep.size, ap (λ w. w.room) c.requires.ready)

pub loop-number-init : goal.loop-number-init
loop-number-init g c =
    let few = AreReady-few _ _ _ (length c.args.left.now) (c.requires.counted.numbers ∙ sym c.requires.reach.sweep.size) c.add_ready.ensures.ready in
    record {
      takes = record {
        reach = c.args.left.now;
        reached = c.requires.reach;
        take = Take-starts _ _ _ _ _ _ c.requires.reach c.requires.counted c.add_ready.ensures.ready;
      };
      kept = c.add_ready.ensures.room ∙ ap (λ w. w.room) c.requires.ready;
      work = omega (arith, few, c.requires.reach.sweep.size);
      steps = omega (arith, few, c.requires.reach.sweep.size);
    }

pub take_number-requires-clause-number : goal.take_number-requires-clause-number
take_number-requires-clause-number g c =
    let t : IsTaking c.args.setup.now c.args.span.now c.loop-number.left c.loop-number.table c.loop-number.missing (c.in-Some.number ∷ c.pop.new.self.numbers) = IsTaking-pop _ _ _ _ _ _ _ _ c.in-Some.ensures.items c.loop-number.invariant.takes in
    t.take.near _ (inl refl)

pub take_number-requires-clause-takes : goal.take_number-requires-clause-takes
take_number-requires-clause-takes g c = IsTaking-pop _ _ _ _ _ _ _ _ c.in-Some.ensures.items c.loop-number.invariant.takes

pub take_number-requires-clause-room : goal.take_number-requires-clause-room
take_number-requires-clause-room g c = omega (arith, c.loop-number.invariant.work, c.in-Some.ensures.shorter)

pub take_number-requires-clause-space : goal.take_number-requires-clause-space
take_number-requires-clause-space g c = omega (arith, contexts_some (followed c.args.span.now), c.pop.ensures.room, c.loop-number.invariant.kept)

pub loop-number-preserved : goal.loop-number-preserved
loop-number-preserved g c = record {
  takes = c.take_number.ensures.takes;
  kept = c.take_number.ensures.space ∙ (c.pop.ensures.room ∙ c.loop-number.invariant.kept);
  work = omega (arith, c.take_number.ensures.work, c.loop-number.invariant.work, c.in-Some.ensures.shorter);
  steps = omega (arith, c.take_number.ensures.steps, c.take_number.ensures.work, c.loop-number.invariant.steps, c.in-Some.ensures.shorter);
}

pub returns-clause-taken : goal.returns-clause-taken
returns-clause-taken g c = IsTaken-ends _ _ _ _ _ _ c.in_default.ensures.items.0 c.loop-number.invariant.takes
