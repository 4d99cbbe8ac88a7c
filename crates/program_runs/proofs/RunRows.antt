-- Rows of stimuli and ticks, worked by hand.
use Rattle.std.proofs.Common.{◌≡◌, ◌==◌, true, false, Some, [], ◌∷◌, map, refl, arith}
use Rattle.dreq_pacing.specs.declared.line.LineAct.TheVariants.{Pin, Tx, Rx, Feed, Drain, Enable, Disable, Restart}
use Rattle.program_runs.specs.Feeding.{fed}
use Rattle.program_runs.specs.Levels.{row}
use Rattle.program_runs.specs.Runs.{ticks_in}
use Rattle.program_runs.specs.Steady.{is_steady}
use Rattle.program_runs.specs.Steps.{takes}
use Rattle.program_runs.specs.Words.{AreWords}

-- lines that enable, disable or restart machine 0 aren't steady, and all others are
steady_row : map is_steady (Pin 3 true ∷ Tx 0 1 ∷ Rx 0 ∷ Feed 0 1 (1 ∷ []) ∷ Drain 0 1 ∷ Enable 0 ∷ Disable 0 ∷ Restart 0 ∷ [])
    ≡ true ∷ true ∷ true ∷ true ∷ true ∷ false ∷ false ∷ false ∷ []
steady_row = refl

-- with a divider of 3 ticks are in clocks 0, 3, 6, ..
ticks_row : map (ticks_in 3) (0 ∷ 1 ∷ 2 ∷ 3 ∷ 4 ∷ 6 ∷ 7 ∷ []) ≡ 0 ∷ 1 ∷ 1 ∷ 1 ∷ 2 ∷ 2 ∷ 3 ∷ []
ticks_row = refl

-- two words are fed by one line, from clock 0 on, one a clock, and none by none
fed_row : fed (7 ∷ 8 ∷ []) ≡ record { clock = 0; act = Feed 0 1 (7 ∷ 8 ∷ []) } ∷ []
fed_row = refl

none_row : fed [] ≡ []
none_row = refl

-- the words that are taken in three ticks from tick 4 on, of a machine that takes its tick's number
taken_row : takes (λ t. Some t) 4 3 ≡ 4 ∷ 5 ∷ 6 ∷ []
taken_row = refl

-- three levels from clock 4 on, of a pin that is high in clock 5 alone
levels_row : row (λ c. c == 5) 4 3 ≡ false ∷ true ∷ false ∷ []
levels_row = refl

-- a word of ones has 32 bits, and a greater one doesn't, written by a line or fed
words_row : AreWords (record { clock = 0; act = Tx 0 4294967295 } ∷ record { clock = 1; act = Feed 0 1 (0 ∷ 4294967295 ∷ []) } ∷ record { clock = 1; act = Pin 3 true } ∷ [])
words_row = (omega arith, ((omega arith, (omega arith, tt)), (tt, tt)))

written_row : AreWords (record { clock = 0; act = Tx 0 4294967296 } ∷ []) → ⊥
written_row are = omega (arith, are.0)

fed_word_row : AreWords (record { clock = 0; act = Feed 0 1 (4294967296 ∷ []) } ∷ []) → ⊥
fed_word_row are = omega (arith, are.0.0)
