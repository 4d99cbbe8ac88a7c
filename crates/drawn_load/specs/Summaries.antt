-- What the run of a load comes to (choice of this profile).
--   start_of      the block of a load at the start of its run
--   edges_of      how often a pin's output level changes in its first clocks
--   times         in how many clocks something is so
--   summary_of    the summary of the load of a seed
--   summary_text  its text: six lines
use Rattle.std.specs.Prelude.{ℕ, zero, suc, Bool, false, List, ◌++◌, codes, decimal, slice_index_or}
use Rattle.dreq_pacing.specs.declared.due.Due.{Due}
use Rattle.block_core.specs.Slots.{counted}
use Rattle.block_core.specs.Block.{Run, first_run}
use Rattle.block_core.specs.Hosted.{samples, host_of}
use Rattle.sample_trace.specs.Edges.{edges_in}
use Rattle.drawn_load.specs.Setups.{setup_of}
use Rattle.drawn_load.specs.Loads.{lines_of}
use Rattle.drawn_load.specs.declared.summary.Summary.{Summary}

-- the block of a load at the start of its run
abbrev pub start_of : ℕ → Run
start_of seed = first_run (setup_of seed)

-- how often the output level of a pin changes in so many clocks, with the levels of the start before clock 0
abbrev pub edges_of : (pin seed clocks : ℕ) → ℕ
edges_of pin seed clocks = edges_in pin (start_of seed).state.levels (samples (start_of seed) (lines_of seed) clocks)

-- what the system does in a clock of the run
abbrev pub host_in : (seed clock : ℕ) → Due
host_in seed clock = host_of (start_of seed) (lines_of seed) clock

-- in how many of the first clocks something is so
unfoldable pub times : (ℕ → Bool) → ℕ → ℕ
times so zero = 0
times so (suc clock) = counted (so clock) (times so clock)

-- how many words transfers moved into a machine's TX in so many clocks: one in each clock in which they move any
abbrev pub sent_to : (machine seed clocks : ℕ) → ℕ
sent_to machine seed clocks = times (λ clock. slice_index_or (host_in seed clock).word_paced machine false) clocks

-- the same out of its RX
abbrev pub got_from : (machine seed clocks : ℕ) → ℕ
got_from machine seed clocks = times (λ clock. slice_index_or (host_in seed clock).read_paced machine false) clocks

-- The summary of the load of a seed over so many clocks: the edges of the pins 0, 1 and 3, the words that the feed moved and those
-- that the drain moved.
unfoldable pub summary_of : (seed clocks : ℕ) → Summary
summary_of seed clocks = record {
  clocks = clocks;
  edges_0 = edges_of 0 seed clocks;
  edges_1 = edges_of 1 seed clocks;
  edges_3 = edges_of 3 seed clocks;
  sent = sent_to 1 seed clocks;
  got = got_from 2 seed clocks;
}

-- the line of a number
abbrev pub line : (name : List ℕ) → ℕ → List ℕ
line name n = name ++ decimal n ++ codes "\n"

-- The text of a summary.
unfoldable pub summary_text : Summary → List ℕ
summary_text s =
    line (codes "clocks ") s.clocks
    ++ line (codes "edges 0 ") s.edges_0
    ++ line (codes "edges 1 ") s.edges_1
    ++ line (codes "edges 3 ") s.edges_3
    ++ line (codes "sent ") s.sent
    ++ line (codes "got ") s.got
