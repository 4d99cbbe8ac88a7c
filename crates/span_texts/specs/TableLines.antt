-- What a line of a table file says (choice of this profile).
--   fields_of        the fields of a line
--   said_in          what a row's line says, its numbers of any size
--   row_of           its row, where the numbers are in range
--   row_at           the row of a line after others, or what is wrong with the line
use Rattle.std.specs.Prelude.{ℕ, ◌==◌, ◌&&◌, nat_le, nat_lt, Bool, true, false, Option, Some, None, List, [], ◌∷◌, Result, Ok, Err, if◌then◌else◌, codes, option_map}
use Rattle.std.specs.List.{slice_split}
use Rattle.std.specs.Str.{bytes_eq}
use Rattle.answers.specs.Steps.{◌>>=◌}
use Rattle.byte_lines.specs.Bytes.{space}
use Rattle.pin_matrix.specs.declared.assume.Follow.{Follow}
use Rattle.span_step.specs.declared.ages.Ages.{Ages}
use Rattle.span_step.specs.declared.ages.Ages.TheVariants.{Empty, Between}
use Rattle.span_bounds.specs.declared.row.Row.{Row}
use Rattle.span_bounds.specs.Numbers.{number_of}
use Rattle.span_texts.specs.declared.fault.TableKind.{TableKind}
use Rattle.span_texts.specs.declared.fault.TableKind.TheVariants.{BadLine, Range, Order}
use Rattle.span_texts.specs.declared.said.Said.{Said}
use Rattle.span_texts.specs.Numbers.{number_in}

-- the fields of a line: single blanks part them
abbrev pub fields_of : List ℕ → List (List ℕ)
fields_of line = slice_split (λ b. b == space) line

-- what is said of X or Y: any, or a number
abbrev pub known_in : List ℕ → Option (Option ℕ)
known_in field = if bytes_eq field (codes "any") then Some None else option_map Some (number_in field)

-- the least and the greatest age, if both are numbers
abbrev pub between : Option ℕ → Option ℕ → Option Ages
between lo hi = do
  low ← lo
  high ← hi
  Some (Between low high)

-- no ages, where a field says so
abbrev pub empty_in : List ℕ → Option Ages
empty_in field = if bytes_eq field (codes "-") then Some Empty else None

-- what is said of ages: none, or two numbers
abbrev pub ages_in : List (List ℕ) → Option Ages
ages_in [] = None
ages_in (field ∷ []) = empty_in field
ages_in (lo ∷ hi ∷ []) = between (number_in lo) (number_in hi)
ages_in (lo ∷ hi ∷ other ∷ others) = None

-- what a line says whose fields say this, if each says something
abbrev pub said_by : Option ℕ → Option (Option ℕ) → Option (Option ℕ) → Option ℕ → Option ℕ → Option Ages → Option Said
said_by address x y from to ages = do
  a ← address
  b ← x
  c ← y
  d ← from
  e ← to
  f ← ages
  Some (record { address = a; x = b; y = c; from = d; to = e; ages = f })

-- what a row's line says by its fields: address, X, Y, the two levels, and the ages
abbrev pub said_in : List (List ℕ) → Option Said
said_in (address ∷ x ∷ y ∷ from ∷ to ∷ ages) =
    said_by (number_in address) (known_in x) (known_in y) (number_in from) (number_in to) (ages_in ages)
said_in _ = None

-- an address in range
abbrev pub placed : ℕ → Option ℕ
placed n = if nat_lt n 32 then Some n else None

-- what is known of X or Y, where it is followed up to this
abbrev pub known_placed : ℕ → Option ℕ → Option (Option ℕ)
known_placed most None = Some None
known_placed most (Some n) = if nat_le n most then Some (Some n) else None

-- a level
abbrev pub level_of : ℕ → Option Bool
level_of n = if n == 0 then Some false else if n == 1 then Some true else None

-- the greatest age that a table can have: one above the greatest bound of a span
abbrev pub most_age : ℕ
most_age = 16777216

-- ages in range: the least is at most the greatest
abbrev pub ages_placed : Ages → Option Ages
ages_placed Empty = Some Empty
ages_placed (Between lo hi) = if nat_le lo hi && nat_le hi most_age then Some (Between lo hi) else None

-- the row of these parts, if each is in range
abbrev pub row_by : Option ℕ → Option (Option ℕ) → Option (Option ℕ) → Option Bool → Option Bool → Option Ages → Option Row
row_by address x y from to ages = do
  a ← address
  b ← x
  c ← y
  d ← from
  e ← to
  f ← ages
  Some (record { context = record { address = a; x = b; y = c; from = d; to = e }; ages = f })

-- the row that is said, if its numbers are in range
abbrev pub row_of : Follow → Said → Option Row
row_of d s = row_by (placed s.address) (known_placed d.x s.x) (known_placed d.y s.y) (level_of s.from) (level_of s.to) (ages_placed s.ages)

-- a row whose context has at least this number
abbrev pub in_order : Follow → ℕ → Option Row → Result Row TableKind
in_order d least None = Err Range
in_order d least (Some r) = if nat_le least (number_of d r.context) then Ok r else Err Order

-- the row that is said, if anything is
abbrev pub row_from : Follow → ℕ → Option Said → Result Row TableKind
row_from d least None = Err BadLine
row_from d least (Some s) = in_order d least (row_of d s)

-- The row of a line, or what is wrong with it: its form, else a number outside its range, else a context that doesn't come
-- after those of the rows before, whose numbers are all below this one.
unfoldable pub row_at : Follow → ℕ → List ℕ → Result Row TableKind
row_at d least line = row_from d least (said_in (fields_of line))
