-- Spans in the runs of two blocks on one set of pins, each with its own stimulus.
--   first_does, second_does   what the system does at each
--   pair_sees                 what the machines of one of them see
--   HoldsInFirst, HoldsInSecond   a span of one of them holds in the run of both, up to some clock
use Rattle.std.specs.Prelude.{ℕ, List}
use Rattle.pin_matrix.specs.Pads.{seen_of}
use Rattle.pin_matrix.specs.declared.setup.Setup.{Setup}
use Rattle.pin_matrix.specs.declared.span.Span.{Span}
use Rattle.dreq_pacing.specs.declared.due.Due.{Due}
use Rattle.dreq_pacing.specs.declared.line.Line.{Line}
use Rattle.block_core.specs.HostedTwin.{first_host_of, second_host_of, hosted_twin_at}
use Rattle.block_core.specs.Twin.{first_twin, twin_pad_at, twin_pad_before}
use Rattle.span_check.specs.Runs.{HoldsOver}

-- what the system does in each clock at the first of two blocks, where the second owns these pins
abbrev pub first_does : (own : ℕ) → (s t : Setup) → (first second : List Line) → ℕ → Due
first_does own s t first second = first_host_of (first_twin own s t) first second

-- what it does at the second
abbrev pub second_does : (own : ℕ) → (s t : Setup) → (first second : List Line) → ℕ → Due
second_does own s t first second = second_host_of (first_twin own s t) first second

-- what the machines of one of them see in a clock: the pads that both share, two clocks late where its setup doesn't bypass the
-- synchroniser (RP2040 Datasheet, section 3.5.6.3)
abbrev pub pair_sees : (bypass : ℕ) → (own : ℕ) → (s t : Setup) → (first second : List Line) → ℕ → ℕ
pair_sees bypass own s t first second c =
    seen_of bypass (twin_pad_at own s t (first_does own s t first second) (second_does own s t first second) c)
    (twin_pad_before own s t (first_does own s t first second) (second_does own s t first second) c)

-- The span of the first block holds in the run of both with these lines, up to clock n.
abbrev pub HoldsInFirst : Span → (own : ℕ) → (s t : Setup) → (first second : List Line) → (n : ℕ) → Type 0
HoldsInFirst sp own s t first second n =
    HoldsOver sp s.memory (pair_sees s.bypass own s t first second) (first_does own s t first second)
    (λ c. (hosted_twin_at (first_twin own s t) first second c).first.run.state) n

-- The span of the second block does.
abbrev pub HoldsInSecond : Span → (own : ℕ) → (s t : Setup) → (first second : List Line) → (n : ℕ) → Type 0
HoldsInSecond sp own s t first second n =
    HoldsOver sp t.memory (pair_sees t.bypass own s t first second) (second_does own s t first second)
    (λ c. (hosted_twin_at (first_twin own s t) first second c).second.run.state) n
