-- The text of a table (choice of this profile).
--   row_line         the line of a row
--   table_text       the text of a table
use Rattle.std.specs.Prelude.{ℕ, ◌++◌, Bool, List, codes, decimal, flat_map}
use Rattle.span_step.specs.declared.ages.Ages.{Ages}
use Rattle.span_step.specs.declared.ages.Ages.TheVariants.{Empty, Between}
use Rattle.span_step.specs.Contexts.{Context}
use Rattle.span_bounds.specs.declared.row.Row.{Row}
use Rattle.span_texts.specs.Words.{known_text, level_text}

-- open ages: the least and the greatest
abbrev pub open_text : (lo hi : ℕ) → List ℕ
open_text lo hi = decimal lo ++ codes " " ++ decimal hi

-- a row's ages: none, or the least and the greatest
abbrev pub ages_text : Ages → List ℕ
ages_text Empty = codes "-"
ages_text (Between lo hi) = open_text lo hi

-- the levels of the from-pin and the to-pin, with blanks around them
abbrev pub levels_text : (from to : Bool) → List ℕ
levels_text from to = codes " " ++ level_text from ++ codes " " ++ level_text to ++ codes " "

-- the line of a row of these texts
abbrev pub fields_line : (address : ℕ) → (x y levels ages : List ℕ) → List ℕ
fields_line address x y levels ages = decimal address ++ codes " " ++ x ++ codes " " ++ y ++ levels ++ ages ++ codes "\n"

-- the line of a context with this text of its ages: address, X, Y, the two levels, and the ages
abbrev pub context_line : Context → List ℕ → List ℕ
context_line k ages = fields_line k.address (known_text k.x) (known_text k.y) (levels_text k.from k.to) ages

-- the line of a row
unfoldable pub row_line : Row → List ℕ
row_line r = context_line r.context (ages_text r.ages)

-- the lines of rows
abbrev pub row_lines : List Row → List ℕ
row_lines rows = flat_map row_line rows

-- The text of a table: a line that says what the file is, a line for each row in context order, and the line `end`.
unfoldable pub table_text : List Row → List ℕ
table_text rows = codes "pio table 1\n" ++ row_lines rows ++ codes "end\n"
