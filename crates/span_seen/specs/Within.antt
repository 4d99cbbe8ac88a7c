-- What a proved span promises of its measured distances.
--   IsUndisturbed   no line disables or restarts the span's machine
--   measured_in     what the span measures in a run
--   IsWithin        the least and the greatest distance are within the bounds
use Rattle.std.specs.Prelude.{◌≡◌, ℕ, ◌<◌, ◌≤◌, false, if◌then◌else◌, Option, List}
use Rattle.pin_matrix.specs.declared.setup.Setup.{Setup}
use Rattle.pin_matrix.specs.declared.span.Span.{Span}
use Rattle.dreq_pacing.specs.declared.line.Line.{Line}
use Rattle.block_core.specs.Block.{first_run}
use Rattle.block_core.specs.Conduct.{conducts}
use Rattle.block_core.specs.Hosted.{host_of, samples}
use Rattle.span_check.specs.Holding.{IsUpTo}
use Rattle.span_check.specs.Marks.{is_broken}
use Rattle.span_meter.specs.declared.seen.SeenDistances.{SeenDistances}
use Rattle.span_meter.specs.Assumed.{spoken_seen}
use Rattle.span_meter.specs.Events.{events_in, is_selective}
use Rattle.span_meter.specs.Measured.{ends_in, measured, pins_in, seen_of}

-- no line of the first n clocks disables the span's machine, or restarts its divider
abbrev pub IsUndisturbed : Setup → Span → List Line → (n : ℕ) → Type 0
IsUndisturbed u sp lines n = (c : ℕ) → c < n → is_broken (host_of (first_run u) lines c) sp.machine ≡ false

-- What the span measures in the first n clocks of the setup's run with a stimulus: every pair of its edges, or those of which it
-- speaks where it speaks not of every one, with the clock in which X and Y are no longer as it assumes.
abbrev pub measured_in : Setup → Span → List Line → (n : ℕ) → SeenDistances
measured_in u sp lines n =
    if is_selective sp
    then spoken_seen (events_in sp) (pins_in (first_run u).state) (conducts (first_run u) lines n)
    else seen_of (measured (ends_in sp) (pins_in (first_run u).state) (samples (first_run u) lines n))

-- Where there are distances, the least and the greatest are within the bounds, of which there may be no greatest.
pub record IsWithin (min : ℕ) (max : Option ℕ) (s : SeenDistances) : Type 0 where
  pub least : 0 < s.pairs → min ≤ s.least
  pub most : 0 < s.pairs → IsUpTo max s.most
