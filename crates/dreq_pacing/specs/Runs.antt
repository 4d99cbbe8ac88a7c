-- What clocks in a row do, and what the lines of a clock do to a pin: the words of the laws.
use Rattle.std.specs.Prelude.{◌≡◌, ℕ, ◌==◌, Bool, Option, Some, None, List, [], ◌∷◌, ◌++◌, option_to_list, if◌then◌else◌}
use Rattle.dreq_pacing.specs.declared.due.Requests.{Requests}
use Rattle.dreq_pacing.specs.declared.line.LineAct.{LineAct}
use Rattle.dreq_pacing.specs.declared.line.LineAct.TheVariants.{Pin, Tx, Rx, Feed, Drain, Enable, Disable, Restart}
use Rattle.dreq_pacing.specs.declared.line.Line.{Line}
use Rattle.dreq_pacing.specs.Transfers.{Feeding, fed_word, fed}
use Rattle.dreq_pacing.specs.Ports.{Ports, transfers_at}

-- the level to which a line sets a pin, if it does
abbrev pub level_by : ℕ → LineAct → Option Bool
level_by pin (Pin p level) = if p == pin then Some level else None
level_by pin (Tx m w) = None
level_by pin (Rx m) = None
level_by pin (Feed m e ws) = None
level_by pin (Drain m e) = None
level_by pin (Enable m) = None
level_by pin (Disable m) = None
level_by pin (Restart m) = None

-- the later of two levels, if any
abbrev pub later_level : Option Bool → Option Bool → Option Bool
later_level early None = early
later_level early (Some level) = Some level

-- the level to which the last line of the pin sets it, if one does
abbrev pub last_level : ℕ → List Line → Option Bool
last_level pin [] = None
last_level pin (l ∷ lines) = later_level (level_by pin l.act) (last_level pin lines)

-- whether a pin is set, as a bit
abbrev pub is_set : Option Bool → ℕ
is_set None = 0
is_set (Some level) = 1

-- its level, as a bit, which is 0 where it isn't set
abbrev pub level_bit : Option Bool → ℕ
level_bit None = 0
level_bit (Some level) = if level then 1 else 0

-- a clock for a feed: its number, and whether TX is ready for it
abbrev pub FeedClock : Type 0
FeedClock = ℕ × Bool

-- the words that a feed moves in some clocks, in order
abbrev pub words_moved : List FeedClock → Feeding → List ℕ
words_moved [] f = []
words_moved (c ∷ cs) f = option_to_list (fed_word c.0 c.1 f) ++ words_moved cs (fed c.0 c.1 f)

-- the feed after some clocks
abbrev pub fed_by : List FeedClock → Feeding → Feeding
fed_by [] f = f
fed_by (c ∷ cs) f = fed_by cs (fed c.0 c.1 f)

-- what is left of the transfers of ports is what the history of requests leaves of them
abbrev pub LeavesTransfers : (ℕ → Requests) → Ports → Type 0
LeavesTransfers requests p = p.transfers ≡ transfers_at p.lines requests p.next
