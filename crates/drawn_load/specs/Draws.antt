-- The draws of a seed, as numbers (choice of this profile): a linear congruential generator of 64 bits.
--   state_at    the state after some draws
--   drawn       a draw by its number
--   Letters     what is drawn first, a row for each in its order
--   word_of     the words of the feed
--   step_of     the steps between the edges of pin 2, in clocks
--   edge_clock  the clocks of these edges
use Rattle.std.specs.Prelude.{ℕ, zero, suc, ◌+◌, ◌*◌, ◌/◌, ◌%◌, ◌^◌, List, map}
use Rattle.drawn_load.specs.declared.letters.Letters.{Letters as Drawn}
use Rattle.std.specs.List.{range_with_len}

-- the state that follows on a state
abbrev pub next_state : ℕ → ℕ
next_state s = (s * 6364136223846793005 + 1442695040888963407) % 2 ^ 64

-- the number below n that a state gives
abbrev pub number_of : ℕ → ℕ → ℕ
number_of n s = s / 2 ^ 33 % n

-- The state after k draws, which is the seed before the first.
unfoldable pub state_at : ℕ → ℕ → ℕ
state_at seed zero = seed
state_at seed (suc k) = next_state (state_at seed k)

-- Draw k, from 0 on, of a number below n: each draw takes its number of the state that it makes.
abbrev pub drawn : ℕ → ℕ → ℕ → ℕ
drawn seed k n = number_of n (state_at seed (k + 1))

-- What is drawn first: the delays of machine 0 in ticks, a while pin 0 is high and b while it is low; the delay c of machines 1
-- and 3; the divider of machine 1, i + f / 256; and the periods in clocks, e of the feed and g of the drain.
pub record Letters : Type 0 where
  pub a : ℕ
  pub b : ℕ
  pub c : ℕ
  pub i : ℕ
  pub f : ℕ
  pub e : ℕ
  pub g : ℕ

-- the letters of the code as numbers
abbrev pub numbers_of : Drawn → Letters
numbers_of l = record { a = l.a; b = l.b; c = l.c; i = l.i; f = l.f; e = l.e; g = l.g }

-- One draw for each letter, in their order.
abbrev pub letters_of : ℕ → Letters
letters_of seed = record {
  a = drawn seed 0 32;
  b = drawn seed 1 32;
  c = drawn seed 2 16;
  i = 1 + drawn seed 3 8;
  f = drawn seed 4 256;
  e = 1 + drawn seed 5 64;
  g = 1 + drawn seed 6 64;
}

-- Word j of the feed, from 0 on: its upper half is drawn before its lower half, and all words after the letters.
abbrev pub word_of : ℕ → ℕ → ℕ
word_of seed j = drawn seed (7 + 2 * j) 65536 * 65536 + drawn seed (8 + 2 * j) 65536

-- The 256 words of the feed.
abbrev pub words_of : ℕ → List ℕ
words_of seed = map (word_of seed) (range_with_len 0 256)

-- Step j, from 0 on, in clocks: 1 to 2,000. All steps are drawn after the 256 words.
abbrev pub step_of : ℕ → ℕ → ℕ
step_of seed j = 1 + drawn seed (519 + j) 2000

-- The sum of the first n steps.
unfoldable pub sum_of_steps : ℕ → ℕ → ℕ
sum_of_steps seed zero = 0
sum_of_steps seed (suc j) = sum_of_steps seed j + step_of seed j

-- The clock of edge j of pin 2, from 0 on: the sum of the steps up to this one.
abbrev pub edge_clock : ℕ → ℕ → ℕ
edge_clock seed j = sum_of_steps seed (j + 1)
