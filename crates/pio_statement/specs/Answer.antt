-- What reading gives: a value, or the first fault that is met from left to right.
--   Read         a value and the place of the token after it, or the fault
--   Answers      a returned value is the one that is read, or a returned fault is
use Rattle.std.specs.Prelude.{ℕ, Option, Some, None, Result}
use Rattle.answers.specs.Answers as answers
use Rattle.pio_statement.specs.declared.fault.StatementKind.{StatementKind}
use Rattle.pio_statement.specs.declared.fault.StatementFault.{StatementFault}
use Rattle.pio_statement.specs.declared.fault.StatementFault.TheVariants.{Memory, Found}

-- a value with the place of the token after it, or the first fault
abbrev pub Read : Type 0 → Type 0
Read X = Result (X × ℕ) StatementKind

-- what a returned fault tells; nothing where memory ran out
abbrev pub told : StatementFault → Option StatementKind
told Memory = None
told (Found kind) = Some kind

-- a returned value is the one that is read, or a returned fault is; want of memory is allowed
abbrev pub Answers : {X : Type 0} → Result X StatementFault → Result X StatementKind → Type 0
Answers result read = answers.Answers told result read
