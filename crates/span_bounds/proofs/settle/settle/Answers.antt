use Rattle.std.proofs.Common.{◌∷◌, refl, inl, ◌∙◌}
use Rattle.span_bounds.specs.Settle.{IsSettling}
use Rattle.span_bounds.proofs.Settling.{IsSettling-next}
use Rattle.span_bounds.proofs.settle.settle.Goals as goal

pub settle_number-requires-clause-number : goal.settle_number-requires-clause-number
settle_number-requires-clause-number g c =
    let t : IsSettling c.args.setup.now c.args.span.now c.loop-number.left c.loop-number.table (c.in-Some.number ∷ c.pop.new.self.numbers) c.pop.new.self.rest = IsSettling-next _ _ _ _ c.loop-number.waiting c.pop.new.self _ c.loop-number.invariant.end c.in-Some.ensures.next c.loop-number.invariant.settling in
    t.settle.near _ (inl refl)

pub settle_number-requires-clause-settling : goal.settle_number-requires-clause-settling
settle_number-requires-clause-settling g c = IsSettling-next _ _ _ _ c.loop-number.waiting c.pop.new.self _ c.loop-number.invariant.end c.in-Some.ensures.next c.loop-number.invariant.settling

pub loop-number-preserved : goal.loop-number-preserved
loop-number-preserved g c = record {
  settling = rw c.settle_number.ensures.rest c.settle_number.ensures.settling;
  room = c.settle_number.ensures.room ∙ (c.pop.ensures.room ∙ c.loop-number.invariant.room);
  end = c.settle_number.ensures.end ∙ (c.pop.ensures.end ∙ c.loop-number.invariant.end);
}
