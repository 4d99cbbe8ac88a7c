use Rattle.std.proofs.Common.{◌≡◌, ℕ, ◌+◌, ◌*◌, map}
use Rattle.std.specs.List.{range_with_len}
use Rattle.drawn_load.specs.Draws.{state_at, word_of}
use Rattle.drawn_load.proofs.words.draw_words.Given as goal

-- so many words are drawn, two draws for each
abbrev pub invariant-loop : goal.invariant-loop
invariant-loop l = record {
  words : (seed : ℕ) → l.initial.draws ≡ state_at seed 7 → l.words.items ≡ map (word_of seed) (range_with_len 0 l.counter);
  state : (seed : ℕ) → l.initial.draws ≡ state_at seed 7 → l.draws ≡ state_at seed (7 + 2 * l.counter);
}
