-- The paced transfers of the machines: what is left of them, and how they move (choice of this profile; their requests are the
-- FIFOs' DREQs, RP2040 Datasheet, section 3.2.3.5).
--   Feeding, Draining  what is left of a transfer
--   Paced              a machine's transfers
--   Transfers          those of all machines
--   begun              after some lines
--   feed_moves, drain_moves   that a word moves in a clock
use Rattle.std.specs.Prelude.{ℕ, ◌+◌, ◌==◌, ◌&&◌, nat_le, Bool, true, false, Option, Some, None, List, [], ◌∷◌, drop, slice_get, if◌then◌else◌}
use Rattle.dreq_pacing.specs.declared.line.LineAct.{LineAct}
use Rattle.dreq_pacing.specs.declared.line.LineAct.TheVariants.{Pin, Tx, Rx, Feed, Drain, Enable, Disable, Restart}
use Rattle.dreq_pacing.specs.declared.line.Line.{Line}
use Rattle.dreq_pacing.specs.declared.transfer.Draining.{Draining}

-- A feed: the words that are left, none where there is no feed, its period, and from which clock on the next word is due.
pub record Feeding : Type 0 where
  pub words : List ℕ
  pub every : ℕ
  pub due : ℕ

-- What is left of a machine's feed and drain.
pub record Paced : Type 0 where
  pub feed : Feeding
  pub drain : Option Draining

-- The transfers of the four machines.
pub record Transfers : Type 0 where
  pub first : Paced
  pub second : Paced
  pub third : Paced
  pub fourth : Paced

-- no transfer
abbrev pub unpaced : Paced
unpaced = record { feed = record { words = []; every = 0; due = 0 }; drain = None }

-- no transfer has begun before clock 0
abbrev pub first_transfers : Transfers
first_transfers = record { first = unpaced; second = unpaced; third = unpaced; fourth = unpaced }

-- A machine's transfers after a line of this clock: a feed or drain of the machine begins, and is due from this clock on.
abbrev pub begun_by : ℕ → ℕ → LineAct → Paced → Paced
begun_by machine clock (Feed m every words) p =
    if m == machine then record p { feed = record { words = words; every = every; due = clock } } else p
begun_by machine clock (Drain m every) p =
    if m == machine then record p { drain = Some (record { every = every; due = clock }) } else p
begun_by machine clock (Pin pin level) p = p
begun_by machine clock (Tx m word) p = p
begun_by machine clock (Rx m) p = p
begun_by machine clock (Enable m) p = p
begun_by machine clock (Disable m) p = p
begun_by machine clock (Restart m) p = p

-- a machine's transfers after some lines
abbrev pub begun : ℕ → List Line → Paced → Paced
begun machine [] p = p
begun machine (l ∷ lines) p = begun machine lines (begun_by machine l.clock l.act p)

-- whether words are left
abbrev pub has_words : List ℕ → Bool
has_words [] = false
has_words (w ∷ words) = true

-- A feed moves a word where one is left and due, and TX is ready: its request is up, and no line writes to it.
abbrev pub feed_moves : ℕ → Bool → Feeding → Bool
feed_moves clock ready f = ready && (nat_le f.due clock && has_words f.words)

-- the word that it moves
abbrev pub fed_word : ℕ → Bool → Feeding → Option ℕ
fed_word clock ready f = if feed_moves clock ready f then slice_get f.words 0 else None

-- the feed after the clock: a period after one that moves a word, the next is due
abbrev pub fed : ℕ → Bool → Feeding → Feeding
fed clock ready f = if feed_moves clock ready f then record { words = drop 1 f.words; every = f.every; due = clock + f.every } else f

-- A drain moves a word where one is due, and RX is ready: its request is up, and no line reads it.
abbrev pub drain_moves : ℕ → Bool → Option Draining → Bool
drain_moves clock ready None = false
drain_moves clock ready (Some d) = ready && nat_le d.due clock

-- the drain after the clock
abbrev pub drained : ℕ → Bool → Option Draining → Option Draining
drained clock ready None = None
drained clock ready (Some d) = if ready && nat_le d.due clock then Some (record { every = d.every; due = clock + d.every }) else Some d

-- a machine's transfers after a clock
abbrev pub moved : ℕ → Bool → Bool → Paced → Paced
moved clock tx_ready rx_ready p = record { feed = fed clock tx_ready p.feed; drain = drained clock rx_ready p.drain }
