-- Tables that have a text.
--   IsAgeRange       ages are in the range that a text can tell
--   HaveAgeRanges    those of each row are
use Rattle.std.specs.Prelude.{◌≤◌, List}
use Rattle.span_step.specs.declared.ages.Ages.{Ages}
use Rattle.span_step.specs.declared.ages.Ages.TheVariants.{Empty, Between}
use Rattle.span_bounds.specs.declared.row.Row.{Row}
use Rattle.span_bounds.specs.Tables.{EachRow}
use Rattle.span_texts.specs.TableLines.{most_age}

-- the least age is at most the greatest, which is at most one above the greatest bound of a span
abbrev pub IsAgeRange : Ages → Type 0
IsAgeRange Empty = Unit {0}
IsAgeRange (Between lo hi) = (lo ≤ hi) × (hi ≤ most_age)

-- the ages of each row are so
abbrev pub HaveAgeRanges : List Row → Type 0
HaveAgeRanges rows = EachRow (λ r. IsAgeRange r.ages) rows
