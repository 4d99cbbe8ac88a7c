-- The fault of a span that isn't provable, and of a table with a flaw; and what it means that the text of a table is
-- written.
use Rattle.std.specs.Prelude.{◌≡◌, ◌⊎◌, ℕ, ◌<◌, ◌≤◌, List, Result, Err, length}
use Rattle.pin_matrix.specs.declared.span.Span.{Span}
use Rattle.span_verdict.specs.declared.table_flaw.Flaw.{Flaw}
use Rattle.span_texts.specs.declared.refusal.Refusal.{Refusal}
use Rattle.fault_lines.specs.declared.fault.Fault.{Fault}
use Rattle.fault_lines.specs.declared.fault.Fault.TheVariants as fault
use Rattle.fault_lines.specs.declared.fault.File.TheVariants as file
use Rattle.fault_lines.specs.Output.{Output}
use Rattle.stages.specs.Judged.{limit}
use Rattle.commands.specs.Written.{Writes}

-- the fault is that of the span at this place, which is refused, or out of memory
abbrev pub IsRefusalOf : (place : ℕ) → Span → Refusal → Fault → Type 0
IsRefusalOf place sp why e = (e ≡ fault.Unproved place sp.name why) ⊎ (e ≡ fault.Memory)

-- the fault is that of a table of the span at this place, which has this flaw, or out of memory
abbrev pub IsFlawOf : (place : ℕ) → Span → Flaw → Fault → Type 0
IsFlawOf place sp flaw e = (e ≡ fault.Flaw place sp.name flaw) ⊎ (e ≡ fault.Memory)

-- a text that is no longer than a table file may be was written, or why not; a longer one was told, and nothing is
-- written
abbrev pub TellsText : Output → Output → List ℕ → Result (Unit {0}) Fault → Type 0
TellsText before after text result =
    ((length text ≤ limit file.Table) × Writes before after text result)
    ⊎ ((limit file.Table < length text) × ((result ≡ Err (fault.TooLong file.Table)) × (after ≡ before)))
