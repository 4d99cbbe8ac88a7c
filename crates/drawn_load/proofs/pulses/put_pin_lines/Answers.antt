use Rattle.std.proofs.Common.{◌≡◌, ℕ, ◌≤◌, ◌+◌, ◌∷◌, [], ◌++◌, ap, ap₂, sym, ◌∙◌, map, refl, zero-add, append-nil, append_assoc, arith}
use Rattle.std.specs.List.{range_with_len}
use Rattle.std.proofs.lemmas.List.FromFn.{map-range_with_len_more}
use Rattle.drawn_load.specs.Draws.{state_at, next_state, number_of, step_of, sum_of_steps}
use Rattle.drawn_load.specs.Loads.{pin_line}
use Rattle.drawn_load.proofs.DrawLaws.{state-more, sum-more, pin_line-is}
use Rattle.drawn_load.proofs.pulses.put_pin_lines.Goals as goal

pub loop-j-init : goal.loop-j-init
unfolding sum_of_steps
loop-j-init c = record { small = omega arith; state = λ seed at. at; clock = λ seed at. refl; lines = λ seed at. sym (append-nil _) }

pub loop-j-preserved : goal.loop-j-preserved
loop-j-preserved c =
    let n = c.loop-j.j in
    let i = c.loop-j.invariant in
    let before = c.args.lines.now.items in
    let assoc : 519 + n + 1 ≡ 519 + (n + 1) = omega arith in
    let small : c.below.result ≤ 1999 = omega arith in
    let state : (seed : ℕ) → c.args.draws.now ≡ state_at seed 519 → c.below.new.self ≡ state_at seed (519 + n + 1)
    = λ seed at. c.below.ensures.state ∙ ap next_state (i.state seed at) ∙ sym (state-more seed (519 + n)) in
    let step : (seed : ℕ) → c.args.draws.now ≡ state_at seed 519 → c.from-clock.result ≡ step_of seed n
    = λ seed at. c.from-clock.ensures ∙ ap (λ k. 1 + k) (c.below.ensures.value ∙ ap (number_of 2000) (state seed at)) in
    let clock : (seed : ℕ) → c.args.draws.now ≡ state_at seed 519 → c.loop-j.clock + c.from-clock.result ≡ sum_of_steps seed (n + 1)
    = λ seed at. ap₂ ◌+◌ (i.clock seed at) (step seed at) ∙ sym (sum-more seed n) in
    record {
      small = omega arith;
      state = λ seed at. state seed at ∙ ap (state_at seed) assoc;
      clock = clock;
      lines = λ seed at.
          c.in_ok-push.ensures.items
          ∙ ap₂ (λ xs l. xs ++ l ∷ []) (i.lines seed at) (pin_line-is seed n (clock seed at))
          ∙ append_assoc before (map (pin_line seed) (range_with_len 0 n)) (pin_line seed n ∷ [])
          ∙ ap (λ xs. before ++ xs) (sym (map-range_with_len_more (pin_line seed) 0 n n (zero-add n)));
    }

pub returns : goal.returns
returns c seed at =
    let end : c.loop-j.j ≡ 1000 = omega arith in
    c.loop-j.invariant.lines seed at ∙ ap (λ k. c.args.lines.now.items ++ map (pin_line seed) (range_with_len 0 k)) end
