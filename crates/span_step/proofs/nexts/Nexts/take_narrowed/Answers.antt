use Rattle.std.proofs.Common.{◌+◌, ◌∷◌, get_or, sym, ap, ◌∙◌, arith}
use Rattle.std.proofs.lemmas.List.{drop_more}
use Rattle.std.proofs.lemmas.Nat.{mul-le}
use Rattle.span_step.specs.Narrowing.{nexts_left}
use Rattle.span_step.proofs.Turns.{counted, of_turn, is_turn, named, middle, last, skipped, first_turn}
use Rattle.span_step.proofs.nexts.Nexts.take_narrowed.Goals as goal
use Rattle.span_step.proofs.nexts.Nexts.take_narrowed.Goals.{then-turn-count, else-turn-count}

pub overflow_add-turn : goal.overflow_add-turn
overflow_add-turn c =
    let s = c.loop-self.self-inside in
    let w = s.narrowing in
    let ends = s.ends.now in
    let end = get_or ends s.place c.index-self-self.result in
    let here = drop_more ends s.place c.index-self-self.result c.loop-self-test.true in
    let many = counted w ends s.place end here _ _ _ _ c.len.ensures.value c.xs-xs.ensures c.len-in-loop-self.ensures.value c.ys-ys.ensures in
    omega (arith, of_turn w ends s.place end here s.turn c.loop-self.invariant.turn, many, mul-le c.len.result c.len-in-loop-self.result 65536 65536 c.len.ensures.few c.len-in-loop-self.ensures.few)

pub invariant_of-self-then-turn-count-2 : goal.invariant_of-self-then-turn-count-2
invariant_of-self-then-turn-count-2 c =
    let s = c.loop-self.self-inside in
    let w = s.narrowing in
    let ends = s.ends.now in
    let end = get_or ends s.place c.index-self-self.result in
    let here = drop_more ends s.place c.index-self-self.result c.loop-self-test.true in
    let many = counted w ends s.place end here _ _ _ _ c.len.ensures.value c.xs-xs.ensures c.len-in-loop-self.ensures.value c.ys-ys.ensures in
    elim c.if-turn-count.branch [
      | then-turn-count v ↦ rw v.self-inside-is (is_turn w ends s.place end here (s.turn + 1) (omega (arith, many, v.if-turn-count)))
      | else-turn-count v ↦ rw v.self-inside-is (first_turn w ends (s.place + 1))
    ]

pub returns-then-turn-count-2 : goal.returns-then-turn-count-2
returns-then-turn-count-2 c =
    let s = c.loop-self.self-inside in
    let w = s.narrowing in
    let ends = s.ends.now in
    let end = get_or ends s.place c.index-self-self.result in
    let here = drop_more ends s.place c.index-self-self.result c.loop-self-test.true in
    let many = counted w ends s.place end here _ _ _ _ c.len.ensures.value c.xs-xs.ensures c.len-in-loop-self.ensures.value c.ys-ys.ensures in
    let one = named w ends s.place end here s.turn _ _ c.knowing.result _ _ _ _ (omega (arith, many, c.if-turn-count-2.true)) c.knowing.ensures c.at.ensures c.at-then-turn-count-2.ensures c.len-then-turn-count-2.ensures.value c.len-then-turn-count-2-2.ensures.value c.xs-xs.ensures c.ys-ys.ensures in
    elim c.if-turn-count.branch [
      | then-turn-count v ↦ rw v.self-inside-is (sym c.loop-self.invariant.left ∙ middle w ends s.place end here s.turn (omega (arith, many, v.if-turn-count)) ∙ ap (λ n. n ∷ nexts_left w ends s.place (s.turn + 1)) one)
      | else-turn-count v ↦ rw v.self-inside-is (sym c.loop-self.invariant.left ∙ last w ends s.place end here s.turn (omega (arith, many, v.if-turn-count, c.if-turn-count-2.true)) ∙ ap (λ n. n ∷ nexts_left w ends (s.place + 1) 0) one)
    ]

pub loop-self-preserved : goal.loop-self-preserved
loop-self-preserved c =
    let s = c.loop-self.self-inside in
    let w = s.narrowing in
    let ends = s.ends.now in
    let end = get_or ends s.place c.index-self-self.result in
    let here = drop_more ends s.place c.index-self-self.result c.loop-self-test.true in
    let many = counted w ends s.place end here _ _ _ _ c.len.ensures.value c.xs-xs.ensures c.len-in-loop-self.ensures.value c.ys-ys.ensures in
    let none = c.if-turn-count-2.false in
    let is_first = of_turn w ends s.place end here s.turn c.loop-self.invariant.turn in
    elim c.if-turn-count.branch [
      | then-turn-count v ↦ absurd (omega (arith, v.if-turn-count, none))
      | else-turn-count v ↦ rw v.self-inside-is (record {
        narrowing = c.loop-self.invariant.narrowing;
        ends = c.loop-self.invariant.ends;
        turn = first_turn w ends (s.place + 1);
        left = sym (skipped w ends s.place end here s.turn (omega (arith, many, none, is_first)) (omega (arith, many, none, is_first))) ∙ c.loop-self.invariant.left;
      })
    ]
