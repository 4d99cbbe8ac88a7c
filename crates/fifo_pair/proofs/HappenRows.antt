-- Rows of what may happen in a clock, worked by hand.
use Rattle.std.proofs.Common.{ℕ, true, false, Some, None, List, [], ◌∷◌, refl, arith}
use Rattle.fifo_pair.specs.Fifos.{Fifos}
use Rattle.fifo_pair.specs.Runs.{Events, MayHappen}

-- TX with these words and RX with those, each with room for four
abbrev with_words : List ℕ → List ℕ → Fifos
with_words tx rx = record { tx = tx; rx = rx; tx_room = 4; rx_room = 4 }

-- the machine takes a word and gives one, while the system writes one and reads
abbrev busy : Events
busy = record { take = true; machine_word = Some 9; system_word = Some 8; system_read = true }

-- nothing happens at either
abbrev idle : Events
idle = record { take = false; machine_word = None; system_word = None; system_read = false }

-- the machine takes the only word of TX and gives the fourth of RX
busy_row : MayHappen busy (with_words (7 ∷ []) (1 ∷ 2 ∷ 3 ∷ []))
busy_row = record { take = λ taken. omega arith; word = λ given. omega arith }

-- it does neither where TX is empty and RX full
idle_row : MayHappen idle (with_words [] (1 ∷ 2 ∷ 3 ∷ 4 ∷ []))
idle_row = record { take = λ taken. cc; word = λ given. cc }

-- no word is taken from an empty TX
empty_row : MayHappen busy (with_words [] []) → ⊥
empty_row may = omega (arith, may.take refl)

-- and none is given to a full RX
full_row : MayHappen busy (with_words (7 ∷ []) (1 ∷ 2 ∷ 3 ∷ 4 ∷ [])) → ⊥
full_row may = omega (arith, may.word refl)
