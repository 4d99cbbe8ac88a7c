-- Two blocks on one set of pins, each with its own stimulus.
--   HostedTwin      both, with what is left of the transfers of each
--   twin_of         the two blocks alone
--   hosted_pads     the pads of their clock
--   hosted_twin_next   both one clock on
--   hosted_twin_at     some clocks on
--   twin_sample_at, twin_samples   what each clock shows, and the first clocks
--   twin_stirs_in   either block stirs in a clock
--   twin_stirring   how many of the first clocks stir
use Rattle.std.specs.Prelude.{ℕ, zero, suc, ◌+◌, Bool, ◌||◌, List, [], ◌∷◌, ◌++◌, if◌then◌else◌}
use Rattle.dreq_pacing.specs.declared.line.Line.{Line}
use Rattle.dreq_pacing.specs.declared.due.Due.{Due}
use Rattle.dreq_pacing.specs.Transfers.{first_transfers}
use Rattle.block_core.specs.declared.sample.Sample.{Sample}
use Rattle.block_core.specs.Hosted.{Hosted, due_of, hosted_next_over}
use Rattle.block_core.specs.Shown.{sample_of}
use Rattle.block_core.specs.Stirring.{stirs_over}
use Rattle.block_core.specs.Twin.{TwinRun, twin_pads_in}

-- Which pins the second block owns, and both blocks, each with what is left of its transfers at the clock's start.
pub record HostedTwin : Type 0 where
  pub own : ℕ
  pub first : Hosted
  pub second : Hosted

-- the two blocks alone
abbrev pub twin_of : HostedTwin → TwinRun
twin_of h = record { own = h.own; first = h.first.run; second = h.second.run }

-- the pads of their clock, in which these are the first block's lines
abbrev pub hosted_pads : List Line → HostedTwin → ℕ
hosted_pads first h = twin_pads_in (due_of first h.first) (twin_of h)

-- both one clock on
unfoldable pub hosted_twin_next : (first second : List Line) → HostedTwin → HostedTwin
hosted_twin_next first second h = record {
  own = h.own;
  first = hosted_next_over (hosted_pads first h) first h.first;
  second = hosted_next_over (hosted_pads first h) second h.second;
}

-- both some clocks on, from a run in which no transfer has begun
unfoldable pub hosted_twin_at : TwinRun → (first second : List Line) → ℕ → HostedTwin
hosted_twin_at start first second zero = record {
  own = start.own;
  first = record { run = start.first; transfers = first_transfers };
  second = record { run = start.second; transfers = first_transfers };
}
hosted_twin_at start first second (suc clock) = hosted_twin_next first second (hosted_twin_at start first second clock)

-- what the system does in each clock at the first, and at the second
abbrev pub first_host_of : TwinRun → (first second : List Line) → ℕ → Due
first_host_of start first second clock = due_of first (hosted_twin_at start first second clock).first

-- what the system does at the second block
abbrev pub second_host_of : TwinRun → (first second : List Line) → ℕ → Due
second_host_of start first second clock = due_of second (hosted_twin_at start first second clock).second

-- the samples of a clock: what the states after it show
abbrev pub twin_sample_at : TwinRun → (first second : List Line) → ℕ → Sample × Sample
twin_sample_at start first second clock =
    let h = hosted_twin_at start first second (suc clock) in (sample_of h.first.run.state, sample_of h.second.run.state)

-- the samples of the first n clocks
unfoldable pub twin_samples : TwinRun → (first second : List Line) → ℕ → List (Sample × Sample)
twin_samples start first second zero = []
twin_samples start first second (suc n) = twin_samples start first second n ++ twin_sample_at start first second n ∷ []

-- The clock stirs: it does in either block, with the pads that both see (choice of this profile).
unfoldable pub twin_stirs_in : (first second : List Line) → HostedTwin → Bool
twin_stirs_in first second h =
    stirs_over (hosted_pads first h) first h.first || stirs_over (hosted_pads first h) second h.second

-- how many of the first n clocks of a run with two stimuli stir
unfoldable pub twin_stirring : TwinRun → (first second : List Line) → ℕ → ℕ
twin_stirring start first second zero = 0
twin_stirring start first second (suc n) =
    twin_stirring start first second n + (if twin_stirs_in first second (hosted_twin_at start first second n) then 1 else 0)
