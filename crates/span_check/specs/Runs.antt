-- Spans in the runs of a setup.
--   marks_over       the marks of a run in which the machines see any pads
--   HoldsOver        a span holds in such a run, up to some clock
--   marks_in         the marks of a setup's run with a stimulus
--   HoldsUpTo        a span holds in it, up to some clock
--   has_breaking     a line of a clock disables a machine or restarts its divider
use Rattle.std.specs.Prelude.{ℕ, suc, ◌==◌, Bool, false, List}
use Rattle.std.specs.List.{list_any}
use Rattle.pin_matrix.specs.declared.setup.Setup.{Setup}
use Rattle.pin_matrix.specs.declared.span.Span.{Span}
use Rattle.dreq_pacing.specs.declared.due.Due.{Due}
use Rattle.dreq_pacing.specs.declared.line.Line.{Line}
use Rattle.dreq_pacing.specs.declared.line.LineAct.{LineAct}
use Rattle.dreq_pacing.specs.declared.line.LineAct.TheVariants.{Pin, Tx, Rx, Feed, Drain, Enable, Disable, Restart}
use Rattle.dreq_pacing.specs.Lines.{lines_in}
use Rattle.block_core.specs.Block.{BlockState, first_run, seen_in}
use Rattle.block_core.specs.Hosted.{hosted_at, host_of}
use Rattle.span_check.specs.Marks.{Mark, mark_of}
use Rattle.span_check.specs.Holding.{Holds}

-- the marks of a run with these states, in which the machines see any pads and the system does this
abbrev pub marks_over : Span → (memory : List ℕ) → (seen : ℕ → ℕ) → (host : ℕ → Due) → (states : ℕ → BlockState) → ℕ → Mark
marks_over sp memory seen host states c = mark_of sp memory (seen c) (host c) (states c) (states (suc c))

-- the span holds in it up to clock n
abbrev pub HoldsOver : Span → (memory : List ℕ) → (seen : ℕ → ℕ) → (host : ℕ → Due) → (states : ℕ → BlockState) → (n : ℕ) → Type 0
HoldsOver sp memory seen host states n = Holds sp.unit sp.min sp.max (marks_over sp memory seen host states) n

-- what the machines see in each clock of the setup's run with a stimulus, and the states of this run
abbrev pub seen_beside : Setup → List Line → ℕ → ℕ
seen_beside u lines c = seen_in (host_of (first_run u) lines c) (hosted_at (first_run u) lines c).run

-- the states of this run
abbrev pub state_beside : Setup → List Line → ℕ → BlockState
state_beside u lines c = (hosted_at (first_run u) lines c).run.state

-- the marks of the setup's run with a stimulus
abbrev pub marks_in : Span → Setup → List Line → ℕ → Mark
marks_in sp u lines = marks_over sp u.memory (seen_beside u lines) (host_of (first_run u) lines) (state_beside u lines)

-- The span holds in the run of the setup with these lines, up to clock n.
abbrev pub HoldsUpTo : Span → Setup → List Line → (n : ℕ) → Type 0
HoldsUpTo sp u lines n = Holds sp.unit sp.min sp.max (marks_in sp u lines) n

-- a line disables the machine with this number, or restarts its divider
abbrev pub is_breaking : (id : ℕ) → LineAct → Bool
is_breaking id (Pin pin level) = false
is_breaking id (Tx machine word) = false
is_breaking id (Rx machine) = false
is_breaking id (Feed machine every words) = false
is_breaking id (Drain machine every) = false
is_breaking id (Enable machine) = false
is_breaking id (Disable machine) = machine == id
is_breaking id (Restart machine) = machine == id

-- some line of the clock does
abbrev pub has_breaking : (id : ℕ) → List Line → (clock : ℕ) → Bool
has_breaking id lines clock = list_any (λ l. is_breaking id l.act) (lines_in clock lines)
