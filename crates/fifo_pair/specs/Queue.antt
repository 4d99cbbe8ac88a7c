-- What a contract sees of one FIFO, however it is kept.
use Rattle.std.specs.Prelude.{ℕ, List, []}

-- the words in it, the oldest first, and for how many it has room
pub record Queue : Type 0 where
  pub words : List ℕ
  pub room : ℕ

-- no words yet
abbrev pub no_words : ℕ → Queue
no_words room = record { words = []; room = room }
