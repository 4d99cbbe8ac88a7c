-- Lines whose statements have no fault are lines of statements.
use Rattle.std.proofs.Common.{◌≡◌, ◌∷◌, [], List, map, None, Result, Ok, Err, refl, ap}
use Rattle.pio_statement.specs.declared.fault.StatementKind.{StatementKind}
use Rattle.pio_statement.specs.declared.statement.Statement.{Statement}
use Rattle.pio_assemble.specs.declared.before.Before.{Before}
use Rattle.pio_assemble.specs.declared.line.SourceLine.{SourceLine}
use Rattle.pio_assemble.specs.Checks.{first_fault, line_fault as fault_of_line, after, after_line}
use Rattle.pio_assemble.specs.Lines.{has_word}
use Rattle.pio_assemble.specs.Manual.{NumberedStatement, statements_of}
use Rattle.pio_assemble.proofs.Faultless.{no_fault}

-- the line of a statement
abbrev pub line_of : NumberedStatement → SourceLine
line_of s = record { number = s.line; reading = Ok s.says }

-- the lines of statements
abbrev pub lines_by : List NumberedStatement → List SourceLine
lines_by statements = map line_of statements

-- lines that are those of their statements
pub record AreStatements (lines : List SourceLine) : Type 0 where
  pub statements : List NumberedStatement
  pub read : statements_of lines ≡ Ok statements
  pub whole : lines ≡ lines_by statements

-- a line without a fault, before lines without one
say : (b : Before) (l : SourceLine) (lines : List SourceLine) → ((c : Before) → first_fault c lines ≡ None → AreStatements lines)
    → (r : Result Statement StatementKind) → fault_of_line b (has_word lines) r ≡ None → first_fault (after_line b r) lines ≡ None → AreStatements (record l { reading = r } ∷ lines)
unfolding statements_of
say b l lines more (Err kind) fault passes = cc
say b l lines more (Ok s) fault passes =
    let rest = more (after b s) passes in
    record {
      statements = record { line = l.number; says = s } ∷ rest.statements;
      read = rw rest.read refl;
      whole = ap (λ ls. record l { reading = Ok s } ∷ ls) rest.whole;
    }

-- where no line has a fault, each has a statement
pub all_say : (lines : List SourceLine) (b : Before) → first_fault b lines ≡ None → AreStatements lines
unfolding first_fault statements_of
all_say [] b h = record { statements = []; read = refl; whole = refl }
all_say (l ∷ lines) b h =
    let split = no_fault l.number (fault_of_line b (has_word lines) l.reading) (first_fault (after_line b l.reading) lines) h in
    say b l lines (all_say lines) l.reading split.0 split.1
