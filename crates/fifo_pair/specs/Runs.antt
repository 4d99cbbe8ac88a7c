-- What becomes of the words in any number of clocks: which came in, which went out, and what is there in the end.
use Rattle.std.specs.Prelude.{ℕ, ◌<◌, Bool, Option, List, [], ◌∷◌, ◌++◌, length, slice_get, option_to_list, IsTrue, IsSome, if◌then◌else◌}
use Rattle.fifo_pair.specs.Fifos.{Fifos, settled, is_over, got_word}

-- what may happen in one clock: the machine takes a word and gives one, the system writes one and reads
pub record Events : Type 0 where
  pub take : Bool
  pub machine_word : Option ℕ
  pub system_word : Option ℕ
  pub system_read : Bool

-- the FIFOs after one clock
abbrev pub after_clock : Events → Fifos → Fifos
after_clock e f = settled e.take e.machine_word e.system_word e.system_read f

-- the FIFOs after the clocks, in order
abbrev pub after_clocks : List Events → Fifos → Fifos
after_clocks [] f = f
after_clocks (e ∷ es) f = after_clocks es (after_clock e f)

-- the system's words that weren't dropped by an overrun, in order
abbrev pub into_tx : List Events → Fifos → List ℕ
into_tx [] f = []
into_tx (e ∷ es) f =
    (if is_over e.system_word f then [] else option_to_list e.system_word) ++ into_tx es (after_clock e f)

-- the words that the machine took, each the front of its clock, in order
abbrev pub out_of_tx : List Events → Fifos → List ℕ
out_of_tx [] f = []
out_of_tx (e ∷ es) f =
    (if e.take then option_to_list (slice_get f.tx 0) else []) ++ out_of_tx es (after_clock e f)

-- the words that the machine gave, in order
abbrev pub into_rx : List Events → List ℕ
into_rx [] = []
into_rx (e ∷ es) = option_to_list e.machine_word ++ into_rx es

-- the words that the system got, in order
abbrev pub out_of_rx : List Events → Fifos → List ℕ
out_of_rx [] f = []
out_of_rx (e ∷ es) f = option_to_list (got_word e.system_read f) ++ out_of_rx es (after_clock e f)

-- the machine takes no word from an empty TX, and gives none to a full RX
pub record MayHappen (e : Events) (f : Fifos) : Type 0 where
  pub take : IsTrue e.take → 0 < length f.tx
  pub word : IsSome e.machine_word → length f.rx < f.rx_room
