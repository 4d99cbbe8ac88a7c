use Rattle.std.proofs.Common.{◌∷◌, refl, inl, ap, ◌∙◌, arith}
use Rattle.pin_matrix.specs.Followed.{followed}
use Rattle.span_bounds.specs.Reach.{Sweep}
use Rattle.span_bounds.proofs.Reaching.{Sweep-starts, Sweep-pop, room_blank, room_starts}
use Rattle.span_bounds.proofs.reach.reach.Goals as goal

pub raise-requires-clause-room : goal.raise-requires-clause-room
raise-requires-clause-room g c = rw c.requires.waiting (room_blank (followed c.args.span.now) _ _ c.requires.grid refl)

pub loop-number-init : goal.loop-number-init
loop-number-init g c =
    let below = rw c.follow.ensures at c.number_of-start.ensures.below in
    let none = ap (λ w. w.numbers) c.requires.waiting in
    let room = room_starts (followed c.args.span.now) _ _ _ _ _ c.requires.grid none below c.raise.ensures.raised in
    record {
      sweep = Sweep-starts _ _ _ _ _ _ _ c.requires.grid none (rw (c.number_of-start.ensures.value, c.follow.ensures, c.start_context.ensures.value) refl) below c.raise.ensures.raised;
      kept = c.raise.ensures.room ∙ ap (λ w. w.room) c.requires.waiting;
      space = omega (arith, c.raise.ensures.room, ap (λ w. w.room) c.requires.waiting, room);
      steps = omega (arith, room);
    }

pub visit-requires-clause-number : goal.visit-requires-clause-number
visit-requires-clause-number g c = let s : Sweep c.args.setup.now c.args.span.now c.loop-number.grid (c.in-Some.number ∷ c.pop.new.self.numbers) = Sweep-pop _ _ _ _ _ _ c.in-Some.ensures.items c.loop-number.invariant.sweep in
    s.near _ (inl refl)

pub visit-requires-clause-sweep : goal.visit-requires-clause-sweep
visit-requires-clause-sweep g c = Sweep-pop _ _ _ _ _ _ c.in-Some.ensures.items c.loop-number.invariant.sweep

pub visit-requires-clause-room : goal.visit-requires-clause-room
visit-requires-clause-room g c = omega (arith, c.pop.ensures.room, c.loop-number.invariant.space, c.in-Some.ensures.shorter)

pub loop-number-preserved : goal.loop-number-preserved
loop-number-preserved g c = record {
  sweep = c.visit.ensures.sweep;
  kept = c.visit.ensures.room ∙ (c.pop.ensures.room ∙ c.loop-number.invariant.kept);
  space = omega (arith, c.visit.ensures.work, c.visit.ensures.room, c.pop.ensures.room, c.loop-number.invariant.space, c.in-Some.ensures.shorter);
  steps = omega (arith, c.visit.ensures.steps, c.visit.ensures.work, c.loop-number.invariant.steps, c.in-Some.ensures.shorter);
}
