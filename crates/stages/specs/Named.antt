-- Which span has a name, and at which place it is.
use Rattle.std.specs.Prelude.{ℕ, ◌+◌, Option, Some, None, List, [], ◌∷◌, option_map, if◌then◌else◌}
use Rattle.std.specs.Str.{bytes_eq}
use Rattle.pin_matrix.specs.declared.span.Span.{Span}

-- the first of these spans that has this name, with its place, where they begin at this one
abbrev pub named_from : ℕ → List ℕ → List Span → Option (ℕ × Span)
named_from place name [] = None
named_from place name (sp ∷ spans) = if bytes_eq sp.name name then Some (place, sp) else named_from (place + 1) name spans

-- the first span of this name
abbrev pub span_named : List ℕ → List Span → Option Span
span_named name spans = option_map (λ found. found.1) (named_from 0 name spans)
