-- The fields of a text that may be used up.
use Rattle.std.specs.Prelude.{ℕ, Option, Some, None, List, []}
use Rattle.span_texts.specs.TableLines.{fields_of}

-- the fields of a text that may be used up
abbrev pub fields_left : Option (List ℕ) → List (List ℕ)
fields_left None = []
fields_left (Some text) = fields_of text
