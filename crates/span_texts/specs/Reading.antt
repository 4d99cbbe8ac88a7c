-- What table a file has (choice of this profile).
--   left_open        the fault of a file that ends before `end`
--   rows_from        the rows of the lines after the first, or the first fault
--   table_of         the rows of a file, or its first fault
use Rattle.std.specs.Prelude.{ℕ, ◌+◌, List, [], ◌∷◌, Result, Ok, Err, if◌then◌else◌, codes}
use Rattle.std.specs.Str.{bytes_eq}
use Rattle.byte_lines.specs.Lines.{lines_of}
use Rattle.pin_matrix.specs.declared.assume.Follow.{Follow}
use Rattle.span_bounds.specs.declared.row.Row.{Row}
use Rattle.span_bounds.specs.Numbers.{number_of}
use Rattle.span_texts.specs.declared.fault.TableKind.{TableKind}
use Rattle.span_texts.specs.declared.fault.TableKind.TheVariants.{BadLine, NoEnd}
use Rattle.span_texts.specs.Faults.{TableRefusal}
use Rattle.span_texts.specs.TableLines.{row_at}

-- the first line of a table file
abbrev pub head_line : List ℕ
head_line = codes "pio table 1"

-- the line after the last row
abbrev pub end_line : List ℕ
end_line = codes "end"

-- what is wrong with a line
abbrev pub wrong_at : ℕ → TableKind → Result (List Row) TableRefusal
wrong_at number kind = Err (record { line = number; kind = kind })

-- what is wrong where this comes after the last newline: a line without its newline is bad, and else the end is missing
abbrev pub left_open : ℕ → List ℕ → Result (List Row) TableRefusal
left_open number [] = wrong_at number NoEnd
left_open number (b ∷ bs) = wrong_at number BadLine

-- after `end` nothing may come
abbrev pub ended : ℕ → List (List ℕ) → Result (List Row) TableRefusal
ended number [] = Ok []
ended number ([] ∷ []) = Ok []
ended number ((b ∷ bs) ∷ others) = wrong_at number BadLine
ended number ([] ∷ other ∷ others) = wrong_at number BadLine

-- a row before others, if they were read
abbrev pub with_row : Row → Result (List Row) TableRefusal → Result (List Row) TableRefusal
with_row r (Ok rows) = Ok (r ∷ rows)
with_row r (Err refusal) = Err refusal

-- The rows of lines up to `end`, or the first fault. The last of these is what comes after the last newline. The first has
-- this number, and each row's context has at least this place in the order and comes after the row before.
abbrev pub rows_from : Follow → (number least : ℕ) → List (List ℕ) → Result (List Row) TableRefusal
rows_from d number least [] = wrong_at number NoEnd
rows_from d number least (last ∷ []) = left_open number last
rows_from d number least (line ∷ next ∷ others) =
    if bytes_eq line end_line then ended (number + 1) (next ∷ others)
    else elim (row_at d least line) [
      | Err kind ↦ wrong_at number kind
      | Ok r ↦ with_row r (rows_from d (number + 1) (number_of d r.context + 1) (next ∷ others))
    ]

-- the rows of a file with this first line and these others
abbrev pub rows_after : Follow → List ℕ → List (List ℕ) → Result (List Row) TableRefusal
rows_after d line others = if bytes_eq line head_line then rows_from d 2 0 others else wrong_at 1 BadLine

-- the rows of a file of these lines
abbrev pub rows_in : Follow → List (List ℕ) → Result (List Row) TableRefusal
rows_in d [] = wrong_at 1 NoEnd
rows_in d (last ∷ []) = left_open 1 last
rows_in d (line ∷ next ∷ others) = rows_after d line (next ∷ others)

-- The rows of a file, where X and Y are followed so far, or its first fault: the least faulty line, and what is wrong with it.
unfoldable pub table_of : Follow → List ℕ → Result (List Row) TableRefusal
table_of d bytes = rows_in d (lines_of bytes)
