-- The fields of a line: the parts between blanks of what comes before `#`, without the empty ones (choice of this profile).
use Rattle.std.specs.Prelude.{ℕ, ◌==◌, ◌||◌, Bool, true, false, List, [], ◌∷◌, if◌then◌else◌}
use Rattle.std.specs.List.{filter, slice_split}
use Rattle.byte_lines.specs.Bytes.{is_blank, newline}
use Rattle.byte_lines.specs.Lines.{lines_of}

-- `#`, which begins a comment
abbrev pub number_sign : ℕ
number_sign = 35

-- what comes before the first `#`
abbrev pub before_comment : List ℕ → List ℕ
before_comment [] = []
before_comment (b ∷ bs) = if b == number_sign then [] else b ∷ before_comment bs

-- whether there is a byte
abbrev pub has_bytes : List ℕ → Bool
has_bytes [] = false
has_bytes (b ∷ bs) = true

-- the parts between blanks that aren't empty
abbrev pub parted : List ℕ → List (List ℕ)
parted text = filter has_bytes (slice_split is_blank text)

-- a part in front of fields, where it isn't empty
abbrev pub with_field : List ℕ → List (List ℕ) → List (List ℕ)
with_field part fields = if has_bytes part then part ∷ fields else fields

-- the fields of a line
abbrev pub fields_of : List ℕ → List (List ℕ)
fields_of line = parted (before_comment line)

-- What is left of a text: the fields of its first line, and the lines after that.
pub record Rest : Type 0 where
  pub fields : List (List ℕ)
  pub left : List (List ℕ)

-- the first line of a text
abbrev pub before_newline : List ℕ → List ℕ
before_newline [] = []
before_newline (b ∷ bs) = if b == newline then [] else b ∷ before_newline bs

-- the lines after the first
abbrev pub lines_after : List ℕ → List (List ℕ)
lines_after [] = []
lines_after (b ∷ bs) = if b == newline then lines_of bs else lines_after bs

-- what is left of a text
abbrev pub rest_of : List ℕ → Rest
rest_of text = record { fields = fields_of (before_newline text); left = lines_after text }

-- a part in front of the fields that are left, where it isn't empty
abbrev pub with_part : List ℕ → Rest → Rest
with_part part rest = record { fields = with_field part rest.fields; left = rest.left }

-- a byte after which a line has no field: a newline, or the `#` of a comment
abbrev pub ends_fields : ℕ → Bool
ends_fields b = b == newline || b == number_sign

-- a byte that parts fields
abbrev pub parts_fields : ℕ → Bool
parts_fields b = is_blank b || ends_fields b

-- whether a text begins with a blank
abbrev pub starts_blank : List ℕ → Bool
starts_blank [] = false
starts_blank (b ∷ bs) = is_blank b

-- whether there is no field
abbrev pub no_fields : List (List ℕ) → Bool
no_fields [] = true
no_fields (field ∷ fields) = false

-- whether a text begins with a byte that ends a line's fields, or is empty
abbrev pub is_over : List ℕ → Bool
is_over [] = true
is_over (b ∷ bs) = ends_fields b
