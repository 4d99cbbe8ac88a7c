-- What the system does in a clock, from the lines, the requests and what is left of the transfers.
--   due_in           what it does
--   transfers_after  what is left of the transfers after the clock
--   transfers_at     the same from clock 0 on, by the history of requests
--   due_at           what it does in a clock, by the history of requests
--   acts_in          whether a line is in the clock, or a transfer moves in it
use Rattle.std.specs.Prelude.{◌≡◌, ℕ, zero, suc, ◌+◌, ◌<◌, ◌≤◌, ◌&&◌, ◌||◌, nat_lt, not, Bool, true, false, Option, Some, None, is_some, List, [], ◌∷◌, if◌then◌else◌, slice_index_or}
use Rattle.dreq_pacing.specs.declared.line.Line.{Line}
use Rattle.dreq_pacing.specs.declared.due.Due.{Due}
use Rattle.dreq_pacing.specs.declared.due.Requests.{Requests}
use Rattle.dreq_pacing.specs.declared.transfer.Moved.{Moved}
use Rattle.dreq_pacing.specs.Lines.{lines_in, has_line}
use Rattle.dreq_pacing.specs.Due.{quiet, with_lines}
use Rattle.dreq_pacing.specs.Transfers.{Paced, Transfers, first_transfers, begun, feed_moves, drain_moves, fed_word, moved}

-- whether a feed may write to the machine's TX: no line does, and its request is up
abbrev pub tx_ready : ℕ → Due → Requests → Bool
tx_ready machine lined requests =
    not (is_some (slice_index_or lined.word machine None)) && slice_index_or requests.tx machine false

-- whether a drain may read the machine's RX
abbrev pub rx_ready : ℕ → Due → Requests → Bool
rx_ready machine lined requests =
    not (slice_index_or lined.read machine false) && slice_index_or requests.rx machine false

-- what a machine's transfers move in a clock in which the lines do this
abbrev pub paced_moves : ℕ → ℕ → Due → Requests → Paced → Moved
paced_moves machine clock lined requests p = record {
  word = fed_word clock (tx_ready machine lined requests) p.feed;
  read = drain_moves clock (rx_ready machine lined requests) p.drain;
}

-- the line's word, else the transfer's
abbrev pub either_word : Option ℕ → Option ℕ → Option ℕ
either_word (Some w) paced = Some w
either_word None paced = paced

-- what is done in a clock in which the lines do this, and the machines' transfers move this
abbrev pub with_moves : Due → Moved → Moved → Moved → Moved → Due
with_moves lined first second third fourth = record lined {
  word = either_word (slice_index_or lined.word 0 None) first.word ∷ either_word (slice_index_or lined.word 1 None) second.word ∷ either_word (slice_index_or lined.word 2 None) third.word ∷ either_word (slice_index_or lined.word 3 None) fourth.word ∷ [];
  read = (slice_index_or lined.read 0 false || first.read) ∷ (slice_index_or lined.read 1 false || second.read) ∷ (slice_index_or lined.read 2 false || third.read) ∷ (slice_index_or lined.read 3 false || fourth.read) ∷ [];
  word_paced = is_some first.word ∷ is_some second.word ∷ is_some third.word ∷ is_some fourth.word ∷ [];
  read_paced = first.read ∷ second.read ∷ third.read ∷ fourth.read ∷ [];
}

-- what is done in a clock in which the lines do this, with the transfers as they are after these lines
abbrev pub done_in : ℕ → Requests → Transfers → Due → Due
done_in clock requests t lined =
    with_moves lined (paced_moves 0 clock lined requests t.first) (paced_moves 1 clock lined requests t.second) (paced_moves 2 clock lined requests t.third) (paced_moves 3 clock lined requests t.fourth)

-- the transfers after the lines of a clock
abbrev pub begun_all : List Line → Transfers → Transfers
begun_all lines t = record {
  first = begun 0 lines t.first;
  second = begun 1 lines t.second;
  third = begun 2 lines t.third;
  fourth = begun 3 lines t.fourth;
}

-- the transfers after the moves of a clock in which the lines do this
abbrev pub moved_all : ℕ → Requests → Due → Transfers → Transfers
moved_all clock requests lined t = record {
  first = moved clock (tx_ready 0 lined requests) (rx_ready 0 lined requests) t.first;
  second = moved clock (tx_ready 1 lined requests) (rx_ready 1 lined requests) t.second;
  third = moved clock (tx_ready 2 lined requests) (rx_ready 2 lined requests) t.third;
  fourth = moved clock (tx_ready 3 lined requests) (rx_ready 3 lined requests) t.fourth;
}

-- What the system does in a clock: what its lines do, and each word that a transfer moves.
unfoldable pub due_in : List Line → ℕ → Requests → Transfers → Due
due_in lines clock requests t =
    done_in clock requests (begun_all (lines_in clock lines) t) (with_lines (lines_in clock lines) quiet)

-- What is left of the transfers after a clock.
unfoldable pub transfers_after : List Line → ℕ → Requests → Transfers → Transfers
transfers_after lines clock requests t =
    moved_all clock requests (with_lines (lines_in clock lines) quiet) (begun_all (lines_in clock lines) t)

-- What is left of the transfers at a clock's start, by the requests of the clocks before.
unfoldable pub transfers_at : List Line → (ℕ → Requests) → ℕ → Transfers
transfers_at lines requests zero = first_transfers
transfers_at lines requests (suc clock) = transfers_after lines clock (requests clock) (transfers_at lines requests clock)

-- What the system does in a clock, by the requests of this clock and those before.
unfoldable pub due_at : List Line → (ℕ → Requests) → ℕ → Due
due_at lines requests clock = due_in lines clock (requests clock) (transfers_at lines requests clock)

-- whether a transfer of the machine moves in a clock without lines
abbrev pub moves : ℕ → ℕ → Requests → Paced → Bool
moves machine clock requests p =
    feed_moves clock (slice_index_or requests.tx machine false) p.feed || drain_moves clock (slice_index_or requests.rx machine false) p.drain

-- whether some transfer moves in a clock without lines
abbrev pub moves_in : ℕ → Requests → Transfers → Bool
moves_in clock requests t =
    moves 0 clock requests t.first || (moves 1 clock requests t.second || (moves 2 clock requests t.third || moves 3 clock requests t.fourth))

-- Whether a line acts in the clock, or a transfer moves in it.
unfoldable pub acts_in : List Line → ℕ → Requests → Transfers → Bool
acts_in lines clock requests t = has_line clock lines || moves_in clock requests t

-- What a contract sees of the ports: the lines, the first clock that may be asked of next, and what is left of the transfers at
-- its start.
pub record Ports : Type 0 where
  pub lines : List Line
  pub next : ℕ
  pub transfers : Transfers

-- the ports at clock 0
abbrev pub first_ports : List Line → Ports
first_ports lines = record { lines = lines; next = 0; transfers = first_transfers }

-- the ports after a clock
abbrev pub asked : ℕ → Requests → Ports → Ports
asked clock requests p = record { lines = p.lines; next = clock + 1; transfers = transfers_after p.lines clock requests p.transfers }

-- The least number from this one on that passes a test, or none where none does.
abbrev pub IsFirst : (ℕ → Bool) → ℕ → Option ℕ → Type 0
IsFirst test from None = (c : ℕ) → from ≤ c → test c ≡ false
IsFirst test from (Some n) = (from ≤ n) × (test n ≡ true) × ((c : ℕ) → from ≤ c → c < n → test c ≡ false)

-- the lesser of two numbers that may be missing
abbrev pub earlier : Option ℕ → Option ℕ → Option ℕ
earlier None b = b
earlier (Some m) None = Some m
earlier (Some m) (Some n) = Some (if nat_lt n m then n else m)
