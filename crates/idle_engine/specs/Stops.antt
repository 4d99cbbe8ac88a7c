-- Where a run stops whose trace fails.
--   Stops             a run of any kind, by what it is after so many clocks and what these show
--   run_after         a block after so many clocks; twin_after two
--   FromReady         what a trace is after a run, from whatever it was ready for
--   PartStays         a text whose first parts stay first parts
--   LeavesFirstPart   a run that stops leaves a first part of its text
use Rattle.std.specs.Prelude.{◌≡◌, ℕ, ◌≤◌, Bool, true, false, Option, List, ◌++◌}
use Rattle.dreq_pacing.specs.declared.line.Line.{Line}
use Rattle.pio_edge.specs.Edge.{TakesPrefix}
use Rattle.block_core.specs.Block.{Run}
use Rattle.block_core.specs.Hosted.{hosted_at}
use Rattle.block_core.specs.HostedTwin.{twin_of, hosted_twin_at}
use Rattle.block_core.specs.Twin.{TwinRun}

-- A run stopped within these clocks, after a count of them: at what the clocks up to there show the trace is broken, and at its end
-- only if these are all of them.
pub record Stops {R V : Type 0} (after : ℕ → R) (shown : ℕ → List V) (clocks : ℕ) (now : R) (broken : List V → Bool → Type 0) : Type 0 where
  pub count : ℕ
  pub within : count ≤ clocks
  pub ended : Bool
  pub whole : ended ≡ true → count ≡ clocks
  pub run : now ≡ after count
  pub breaks : broken (shown count) ended

-- the state of a block after so many clocks of its run
abbrev pub run_after : (start : Run) → (lines : List Line) → ℕ → Run
run_after start lines n = (hosted_at start lines n).run

-- the same of two blocks, each with its lines
abbrev pub twin_after : (start : TwinRun) → (first second : List Line) → ℕ → TwinRun
twin_after start first second n = twin_of (hosted_twin_at start first second n)

-- What a trace is after a run, from whatever it was ready for before.
abbrev pub FromReady : {V : Type 0} → (ready : Option (List ℕ) → Type 0) → (is : Option (List ℕ) → List V → Bool → Type 0) → List V → Bool → Type 0
FromReady ready is told ended = (before : Option (List ℕ)) → ready before → is before told ended

-- What was taken of the text of some, without its end, is a first part of the whole text of these and any later ones.
abbrev pub PartStays : {V : Type 0} → (before taken : Option (List ℕ)) → (text : List V → Bool → List ℕ) → Type 0
PartStays {V} before taken text =
    (told later : List V) → TakesPrefix before (text told false) taken → TakesPrefix before (text (told ++ later) true) taken

-- A run of which a text is written, to a sink that took a first part of the text so far: where it stops, this is a first part of the
-- whole text, if the text's first parts stay first parts.
abbrev pub LeavesFirstPart : {R V : Type 0} → (after : ℕ → R) → (shown : ℕ → List V) → Type 0
LeavesFirstPart {R} {V} after shown =
    (before taken : Option (List ℕ)) (text : List V → Bool → List ℕ) (clocks : ℕ) (now : R)
    → PartStays before taken text
    → Stops after shown clocks now (λ told ended. TakesPrefix before (text told ended) taken)
    → TakesPrefix before (text (shown clocks) true) taken
