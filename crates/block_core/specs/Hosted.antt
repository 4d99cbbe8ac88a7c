-- A run with the system's ports, whose transfers look at the FIFOs.
--   Hosted        the run and what is left of the transfers
--   due_of        what the system does in its clock
--   hosted_next_over   one clock on with given pads, hosted_next with its own
--   hosted_at     some clocks on
--   host_of       what the system does in each clock
--   sample_at, samples    what each clock shows, and the first clocks
use Rattle.std.specs.Prelude.{ℕ, zero, suc, List, [], ◌∷◌, ◌++◌}
use Rattle.dreq_pacing.specs.declared.line.Line.{Line}
use Rattle.dreq_pacing.specs.declared.due.Due.{Due}
use Rattle.dreq_pacing.specs.declared.due.Requests.{Requests}
use Rattle.dreq_pacing.specs.Transfers.{Transfers, first_transfers}
use Rattle.dreq_pacing.specs.Ports.{due_in, transfers_after}
use Rattle.block_core.specs.declared.sample.Sample.{Sample}
use Rattle.block_core.specs.Block.{Run, next, next_over}
use Rattle.block_core.specs.Shown.{sample_of, requests_of}

-- The block in some clock, and what is left of the transfers at its start.
pub record Hosted : Type 0 where
  pub run : Run
  pub transfers : Transfers

-- what the system does in the clock: the stimulus's lines, and the transfers by what the machines ask
abbrev pub due_of : List Line → Hosted → Due
due_of lines h = due_in lines h.run.clock (requests_of h.run.state) h.transfers

-- what is left of the transfers after the clock
abbrev pub transfers_on : List Line → Hosted → Transfers
transfers_on lines h = transfers_after lines h.run.clock (requests_of h.run.state) h.transfers

-- one clock on, with these pads
abbrev pub hosted_next_over : (pad : ℕ) → List Line → Hosted → Hosted
hosted_next_over pad lines h = record { run = next_over pad (due_of lines h) h.run; transfers = transfers_on lines h }

-- the same with the block's own pads
unfoldable pub hosted_next : List Line → Hosted → Hosted
hosted_next lines h = record { run = next (due_of lines h) h.run; transfers = transfers_on lines h }

-- some clocks on from a run in which no transfer has begun
unfoldable pub hosted_at : Run → List Line → ℕ → Hosted
hosted_at start lines zero = record { run = start; transfers = first_transfers }
hosted_at start lines (suc clock) = hosted_next lines (hosted_at start lines clock)

-- what the system does in each clock
abbrev pub host_of : Run → List Line → ℕ → Due
host_of start lines clock = due_of lines (hosted_at start lines clock)

-- what the machines ask at the start of each clock
abbrev pub asked_at : Run → List Line → ℕ → Requests
asked_at start lines clock = requests_of (hosted_at start lines clock).run.state

-- the sample of a clock: what the state after it shows
abbrev pub sample_at : Run → List Line → ℕ → Sample
sample_at start lines clock = sample_of (hosted_at start lines (suc clock)).run.state

-- the samples of the first n clocks
unfoldable pub samples : Run → List Line → ℕ → List Sample
samples start lines zero = []
samples start lines (suc n) = samples start lines n ++ sample_at start lines n ∷ []
