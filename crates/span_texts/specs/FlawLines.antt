-- The line of a table's flaw (choice of this profile). Each begins with some text before it, such as the program's name.
--   flaw_line        the line of a flaw
use Rattle.std.specs.Prelude.{ℕ, ◌++◌, List, codes}
use Rattle.span_verdict.specs.declared.table_flaw.Flaw.{Flaw}
use Rattle.span_verdict.specs.declared.table_flaw.Flaw.TheVariants.{Start, Open, Bad}
use Rattle.span_texts.specs.Words.{cause_ending, told_at}

-- the line of a table without a row for the start
abbrev pub start_line : (front name : List ℕ) → List ℕ
start_line front name = front ++ codes "span " ++ name ++ codes " table: start\n"

-- the line of a flaw of the table of the span with this name
abbrev pub flaw_line : (front name : List ℕ) → Flaw → List ℕ
flaw_line front name Start = start_line front name
flaw_line front name (Open k) = told_at front name (codes " table: open at ") k (codes "")
flaw_line front name (Bad k cause) = told_at front name (codes " table: bad at ") k (cause_ending cause)

-- the line of a table that was rechecked and has no flaw
abbrev pub rechecked_line : (name : List ℕ) → List ℕ
rechecked_line name = codes "span " ++ name ++ codes " rechecked\n"
