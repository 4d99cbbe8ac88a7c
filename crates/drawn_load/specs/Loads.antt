-- The stimulus that the draws of a seed make (choice of this profile).
--   pin_line   a line of pin 2
--   lines_of     the stimulus
use Rattle.std.specs.Prelude.{ℕ, ◌%◌, ◌==◌, List, ◌∷◌, map}
use Rattle.std.specs.List.{range_with_len}
use Rattle.dreq_pacing.specs.declared.line.Line.{Line}
use Rattle.dreq_pacing.specs.declared.line.LineAct.TheVariants as act
use Rattle.drawn_load.specs.Draws.{Letters, letters_of, words_of, edge_clock}

-- line j of pin 2, from 0 on: the pin rises at the even ones
abbrev pub pin_line : ℕ → ℕ → Line
pin_line seed j = record { clock = edge_clock seed j; act = act.Pin 2 (j % 2 == 0) }

-- the 1,000 lines of pin 2
abbrev pub pin_lines : ℕ → List Line
pin_lines seed = map (pin_line seed) (range_with_len 0 1000)

-- from clock 0 on a feed of machine 1, with the period e
abbrev pub feed_line : Letters → List ℕ → Line
feed_line l words = record { clock = 0; act = act.Feed 1 l.e words }

-- from clock 0 on a drain of machine 2, with the period g
abbrev pub drain_line : Letters → Line
drain_line l = record { clock = 0; act = act.Drain 2 l.g }

-- The stimulus: the feed, the drain, and the lines of pin 2.
abbrev pub lines_of : ℕ → List Line
lines_of seed = feed_line (letters_of seed) (words_of seed) ∷ drain_line (letters_of seed) ∷ pin_lines seed
