-- How what a function returns relates to what the definitions compute; out of memory is allowed.
--   SourceRefusal  a fault with its line
--   Answers        what was returned of a line, seen by a view, or its fault, is what is computed
--   Finds          no fault of a line is found, or the one that was returned
--   Gives          what was returned of a source, seen by a view, or its fault, is what is computed
--   Checks         no fault of a source is found, or the one that was returned
use Rattle.std.specs.Prelude.{ℕ, Option, Some, None, Result, Ok, Err}
use Rattle.answers.specs.Answers as answers
use Rattle.pio_assemble.specs.declared.fault.SourceKind.{SourceKind}
use Rattle.pio_assemble.specs.declared.fault.LineFault.{LineFault}
use Rattle.pio_assemble.specs.declared.fault.LineFault.TheVariants as line_fault
use Rattle.pio_assemble.specs.declared.fault.SourceFault.{SourceFault}
use Rattle.pio_assemble.specs.declared.fault.SourceFault.TheVariants.{Memory, Found}

-- where a source is faulty, and why
pub record SourceRefusal : Type 0 where
  pub line : ℕ
  pub kind : SourceKind

-- a fault of a line has the line's number
abbrev pub at_line : {X : Type 0} → ℕ → Result X SourceKind → Result X SourceRefusal
at_line number (Ok x) = Ok x
at_line number (Err kind) = Err (record { line = number; kind = kind })

-- what a returned fault of a line says; nothing where memory ran out
abbrev pub line_told : LineFault → Option SourceKind
line_told line_fault.Memory = None
line_told (line_fault.Found kind) = Some kind

-- what a returned fault of a source says; nothing where memory ran out
abbrev pub told : SourceFault → Option SourceRefusal
told Memory = None
told (Found line kind) = Some (record { line = line; kind = kind })

-- what was returned of a line, seen by a view, is what is computed
abbrev pub Answers : {X Y : Type 0} → (X → Y) → Result X LineFault → Result Y SourceKind → Type 0
Answers view result computed = answers.Gives line_told view result computed

-- no fault of a line is found, or the one that was returned
abbrev pub Finds : {X : Type 0} → Result X LineFault → Option SourceKind → Type 0
Finds result found = answers.Finds line_told result found

-- what was returned of a source, seen by a view, is what is computed
abbrev pub Gives : {X Y : Type 0} → (X → Y) → Result X SourceFault → Result Y SourceRefusal → Type 0
Gives view result computed = answers.Gives told view result computed

-- no fault of a source is found, or the one that was returned
abbrev pub Checks : {X : Type 0} → Result X SourceFault → Option SourceRefusal → Type 0
Checks result found = answers.Finds told result found

-- a line's fault with the line
abbrev pub located : ℕ → LineFault → SourceFault
located line line_fault.Memory = Memory
located line (line_fault.Found kind) = Found line kind
