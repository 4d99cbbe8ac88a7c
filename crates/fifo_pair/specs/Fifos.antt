-- What the two FIFOs of a machine are, and what one clock does to them. All levels are read as at the clock's start.
--   Fifos          the words of TX and of RX, and the room of each
--   first_fifos    as they are at the start, by how they are joined
--   queued, less_front, if_room, is_full, is_dropped     one list and one word
--   tx_after, rx_after, settled     TX, RX and both after a clock
--   is_over, is_under, got_word     what the system is told of its accesses
use Rattle.std.specs.Prelude.{ℕ, ◌≤◌, ◌==◌, Bool, false, not, ◌&&◌, Option, Some, None, List, [], ◌∷◌, ◌++◌, length, drop, slice_get, nat_lt, if◌then◌else◌}

-- TX goes from the system to the machine, RX from the machine to the system; the oldest word of each comes first
-- (RP2040 Datasheet, 3.2.3.5)
pub record Fifos : Type 0 where
  pub tx : List ℕ
  pub rx : List ℕ
  pub tx_room : ℕ
  pub rx_room : ℕ

-- how many words a FIFO holds of its own: one that is joined to the other way has its words too, which has none then
-- (RP2040 Datasheet, 3.5.3)
abbrev pub room_of : (joined other_joined : Bool) → ℕ
room_of joined other_joined = if joined then 8 else if other_joined then 0 else 4

-- both are empty at the start (choice of this profile)
abbrev pub first_fifos : (join_tx join_rx : Bool) → Fifos
first_fifos join_tx join_rx = record {
  tx = [];
  rx = [];
  tx_room = room_of join_tx join_rx;
  rx_room = room_of join_rx join_tx;
}

-- neither holds more words than it has room for
pub record Fits (f : Fifos) : Type 0 where
  pub tx : length f.tx ≤ f.tx_room
  pub rx : length f.rx ≤ f.rx_room

-- the words with one more, if any, after them
abbrev pub queued : Option ℕ → List ℕ → List ℕ
queued None words = words
queued (Some word) words = words ++ word ∷ []

-- the words less the oldest, where it is taken
abbrev pub less_front : (taken : Bool) → List ℕ → List ℕ
less_front taken words = if taken then drop 1 words else words

-- the word that is let in, if any: one that comes while the level is below the room
abbrev pub if_room : ℕ → List ℕ → Option ℕ → Option ℕ
if_room room words None = None
if_room room words (Some word) = if nat_lt (length words) room then Some word else None

-- TX after a clock in which the machine takes its oldest word or doesn't, and the system writes the word, if any
abbrev pub tx_after : (take : Bool) (system_word : Option ℕ) → Fifos → List ℕ
tx_after take system_word f = queued (if_room f.tx_room f.tx system_word) (less_front take f.tx)

-- RX after a clock in which the system reads or doesn't, and the machine gives the word, if any; an empty RX
-- has no oldest word to read
abbrev pub rx_after : (machine_word : Option ℕ) (system_read : Bool) → Fifos → List ℕ
rx_after machine_word system_read f = queued machine_word (less_front system_read f.rx)

-- both after a clock
unfoldable pub settled : (take : Bool) (machine_word system_word : Option ℕ) (system_read : Bool) → Fifos → Fifos
settled take machine_word system_word system_read f = record f {
  tx = tx_after take system_word f;
  rx = rx_after machine_word system_read f;
}

-- no room is left, as in a FIFO without room, which is full and empty
abbrev pub is_full : ℕ → List ℕ → Bool
is_full room words = not (nat_lt (length words) room)

-- there is a word, and it isn't let in
abbrev pub is_dropped : ℕ → List ℕ → Option ℕ → Bool
is_dropped room words None = false
is_dropped room words (Some _) = is_full room words

-- the system writes to a full TX, so that its word is dropped (RP2040 Datasheet, 3.7, FDEBUG.TXOVER)
abbrev pub is_over : (system_word : Option ℕ) → Fifos → Bool
is_over system_word f = is_dropped f.tx_room f.tx system_word

-- the system reads an empty RX, so that it gets nothing (RP2040 Datasheet, 3.7, FDEBUG.RXUNDER)
abbrev pub is_under : (system_read : Bool) → Fifos → Bool
is_under system_read f = system_read && length f.rx == 0

-- the word that the system gets, if any: the oldest of RX, where it reads
abbrev pub got_word : (system_read : Bool) → Fifos → Option ℕ
got_word system_read f = if system_read then slice_get f.rx 0 else None
