-- How far a span follows X and Y.
use Rattle.pin_matrix.specs.Assumptions.{follow_of}
use Rattle.pin_matrix.specs.declared.assume.Follow.{Follow}
use Rattle.pin_matrix.specs.declared.span.Span.{Span}

-- up to these numbers, by what it assumes
abbrev pub followed : Span → Follow
followed sp = follow_of sp.assume
