-- What a verdict comes to without its table.
--   says_more        a span says more than two edges of levels and two bounds
--   finding_of       what the line of a proved span says
--   found_by         that, or why it isn't proved
use Rattle.std.specs.Prelude.{ℕ, Bool, false, ◌||◌, ◌==◌, not, List, length, if◌then◌else◌, Option, Some, None, Result, Ok, Err}
use Rattle.pin_matrix.specs.declared.span.PinSignal.{PinSignal}
use Rattle.pin_matrix.specs.declared.span.PinSignal.TheVariants.{Level, Direction}
use Rattle.pin_matrix.specs.declared.span.Span.{Span}
use Rattle.span_step.specs.Steps.{is_bounded}
use Rattle.span_verdict.specs.declared.verdict.Verdict.{Verdict}
use Rattle.span_verdict.specs.declared.verdict.Verdict.TheVariants as verdict
use Rattle.span_texts.specs.declared.refusal.Finding.{Finding}
use Rattle.span_texts.specs.declared.refusal.Refusal.{Refusal}
use Rattle.span_texts.specs.declared.refusal.Refusal.TheVariants as refusal

-- An event is an edge of a level that any instruction may make. Else it is one of a direction, or instructions are named
-- that alone may make it, or whose end it is.
abbrev pub is_any_edge : Option PinSignal → (named : List ℕ) → Bool
is_any_edge (Some Level) named = length named == 0
is_any_edge (Some Direction) named = false
is_any_edge None named = false

-- a span assumes something
abbrev pub assumes : Span → Bool
assumes sp = not (length sp.assume == 0)

-- A span has no greatest bound, or an event that isn't any edge of a level, or says nothing of some from-events: of such a
-- one it is told whether it closes, since it may be proved where nothing ends it.
abbrev pub says_more : Span → Bool
says_more sp =
    ((((not (is_bounded sp) || not (is_any_edge sp.from_signal sp.from_at)) || not (is_any_edge sp.to_signal sp.to_at)) || sp.prompt)
    || not (length sp.without == 0))
    || assumes sp

-- whether the span opens, where it says more whether it closes, and under which premises
abbrev pub finding_of : Span → (opens closes : Bool) → Finding
finding_of sp opens closes = record { opens = opens; closes = if says_more sp then Some closes else None; prompt = sp.prompt; assumes = assumes sp }

-- what the line of a proved span says, or why it isn't proved
abbrev pub found_by : Span → Verdict → Result Finding Refusal
found_by sp (verdict.Proved table opens closes) = Ok (finding_of sp opens closes)
found_by sp (verdict.Unproved context cause) = Err (refusal.Unproved context cause)
found_by sp (verdict.Shared machine) = Err (refusal.Shared machine)
