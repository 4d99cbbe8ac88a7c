use Rattle.std.proofs.Common.{◌≡◌, ◌+◌, ◌*◌, ◌∷◌, [], ◌++◌, ap, ap₂, sym, ◌∙◌, map, zero-add, arith}
use Rattle.std.specs.List.{range_with_len}
use Rattle.std.proofs.lemmas.List.FromFn.{map-range_with_len_more}
use Rattle.drawn_load.specs.Draws.{state_at, word_of, drawn}
use Rattle.drawn_load.proofs.words.draw_words.Goals as goal

pub loop-init : goal.loop-init
loop-init c = record { words = λ seed at. c.new-words.ensures.items; state = λ seed at. at }

pub loop-preserved : goal.loop-preserved
loop-preserved c =
    let n = c.loop.counter in
    let next : 7 + 2 * n + 2 ≡ 7 + 2 * (n + 1) = omega arith in
    let lower : 7 + 2 * n + 1 ≡ 8 + 2 * n = omega arith in
    record {
      words = λ seed at.
          let word : c.draw_word.result ≡ word_of seed n =
          c.draw_word.ensures.word seed (7 + 2 * n) (c.loop.invariant.state seed at)
          ∙ ap (λ k. drawn seed (7 + 2 * n) 65536 * 65536 + drawn seed k 65536) lower in
          c.in_ok-push.ensures.items ∙ ap₂ (λ xs w. xs ++ w ∷ []) (c.loop.invariant.words seed at) word
          ∙ sym (map-range_with_len_more (word_of seed) 0 n n (zero-add n));
      state = λ seed at.
          c.draw_word.ensures.state seed (7 + 2 * n) (c.loop.invariant.state seed at) ∙ ap (state_at seed) next;
    }

pub returns-clause-words : goal.returns-clause-words
returns-clause-words c seed at =
    let end : c.loop.counter ≡ 256 = omega arith in
    c.loop.invariant.words seed at ∙ ap (λ k. map (word_of seed) (range_with_len 0 k)) end

pub returns-clause-state : goal.returns-clause-state
returns-clause-state c seed at =
    let end : 7 + 2 * c.loop.counter ≡ 519 = omega arith in
    c.loop.invariant.state seed at ∙ ap (state_at seed) end
