use Rattle.std.proofs.Common.{◌≡◌, ◌+◌, ◌∷◌, drop, sym, ap, ◌∙◌, arith}
use Rattle.std.proofs.lemmas.List.{drop_more}
use Rattle.span_step.proofs.Turns.{wide_turn, wide_first}
use Rattle.span_step.proofs.nexts.Nexts.take_first.Goals as goal

pub invariant_of-self : goal.invariant_of-self
invariant_of-self c =
    let s = c.self.inside in
    let first = wide_turn s.narrowing s.ends.now s.place s.turn (sym c.is_wide.ensures ∙ c.if-is_wide.true) c.self.invariant in
    omega (arith, first)

pub returns-then-is_wide : goal.returns-then-is_wide
returns-then-is_wide c =
    let s = c.self.inside in
    let end = c.in_ok-end.end.now in
    let is = c.in_ok-end.ensures.lookup in
    let here : drop s.place s.ends.now ≡ end ∷ drop (s.place + 1) s.ends.now = drop_more s.ends.now s.place end is.3.0 ∙ ap (λ n. n ∷ drop (s.place + 1) s.ends.now) (sym is.1) in
    sym c.self.view_is ∙ wide_first s.narrowing s.ends.now s.place s.turn end (sym c.is_wide.ensures ∙ c.if-is_wide.true) c.self.invariant here
