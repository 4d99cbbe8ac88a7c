-- Rows of the ports, worked by hand: the definitions compute to them.
use Rattle.std.proofs.Common.{◌≡◌, ℕ, true, false, Some, None, List, [], ◌∷◌, refl}
use Rattle.dreq_pacing.specs.declared.line.Line.{Line}
use Rattle.dreq_pacing.specs.declared.line.LineAct.TheVariants.{Pin, Tx, Feed}
use Rattle.dreq_pacing.specs.declared.due.Due.{Due}
use Rattle.dreq_pacing.specs.declared.due.Requests.{Requests}
use Rattle.dreq_pacing.specs.Lines.{is_crowded}
use Rattle.dreq_pacing.specs.Blocks.{pair_of}
use Rattle.dreq_pacing.specs.Due.{quiet}
use Rattle.dreq_pacing.specs.Ports.{due_in, transfers_after, transfers_at, due_at}

abbrev none_up : Requests
none_up = record { tx = false ∷ false ∷ false ∷ false ∷ []; rx = false ∷ false ∷ false ∷ false ∷ [] }

abbrev all_up : Requests
all_up = record { tx = true ∷ true ∷ true ∷ true ∷ []; rx = true ∷ true ∷ true ∷ true ∷ [] }

-- a feed of three words every three clocks, and a line that writes in clock 3
abbrev fed_lines : List Line
fed_lines = record { clock = 0; act = Feed 0 3 (7 ∷ 8 ∷ 9 ∷ []) } ∷ record { clock = 3; act = Tx 0 1 } ∷ []

abbrev paced : ℕ → Due
paced w = record quiet { word = Some w ∷ None ∷ None ∷ None ∷ []; word_paced = true ∷ false ∷ false ∷ false ∷ [] }

abbrev lined : ℕ → Due
lined w = record quiet { word = Some w ∷ None ∷ None ∷ None ∷ [] }

-- the feed moves a word in its own clock
row_0 : due_at fed_lines (λ c. all_up) 0 ≡ paced 7
unfolding due_at due_in transfers_at transfers_after
row_0 = refl

row_1 : due_at fed_lines (λ c. all_up) 1 ≡ quiet
unfolding due_at due_in transfers_at transfers_after
row_1 = refl

-- the line goes first
row_3 : due_at fed_lines (λ c. all_up) 3 ≡ lined 1
unfolding due_at due_in transfers_at transfers_after
row_3 = refl

-- the transfer follows, and its period counts from there
row_4 : due_at fed_lines (λ c. all_up) 4 ≡ paced 8
unfolding due_at due_in transfers_at transfers_after
row_4 = refl

row_6 : due_at fed_lines (λ c. all_up) 6 ≡ quiet
unfolding due_at due_in transfers_at transfers_after
row_6 = refl

row_7 : due_at fed_lines (λ c. all_up) 7 ≡ paced 9
unfolding due_at due_in transfers_at transfers_after
row_7 = refl

-- without words the feed is over
row_10 : due_at fed_lines (λ c. all_up) 10 ≡ quiet
unfolding due_at due_in transfers_at transfers_after
row_10 = refl

-- while no request is up nothing moves
row_down : due_at fed_lines (λ c. none_up) 4 ≡ quiet
unfolding due_at due_in transfers_at transfers_after
row_down = refl

-- of two lines of a pin the later counts
pin_row : due_at (record { clock = 0; act = Pin 3 true } ∷ record { clock = 0; act = Pin 3 false } ∷ record { clock = 0; act = Pin 4 true } ∷ []) (λ c. none_up) 0 ≡ record quiet { pins = 24; values = 16 }
unfolding due_at due_in transfers_at transfers_after
pin_row = refl

-- of two blocks each has its own machines' lines and both have the pins'
pair_row : pair_of (record { clock = 0; act = Pin 3 true } ∷ record { clock = 1; act = Tx 3 9 } ∷ record { clock = 1; act = Tx 4 8 } ∷ record { clock = 2; act = Feed 7 3 (5 ∷ []) } ∷ [])
    ≡ (
      record { clock = 0; act = Pin 3 true } ∷ record { clock = 1; act = Tx 3 9 } ∷ [],
      record { clock = 0; act = Pin 3 true } ∷ record { clock = 1; act = Tx 0 8 } ∷ record { clock = 2; act = Feed 3 3 (5 ∷ []) } ∷ [],
    )
pair_row = refl

-- machines 0 and 4 don't crowd each other
places_row : is_crowded (record { clock = 0; act = Tx 0 1 } ∷ []) (record { clock = 0; act = Tx 4 1 }) ≡ false
places_row = refl

-- a machine crowds itself
place_row : is_crowded (record { clock = 0; act = Tx 4 1 } ∷ []) (record { clock = 0; act = Tx 4 2 }) ≡ true
place_row = refl
