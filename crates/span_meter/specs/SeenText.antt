-- The line of what was measured of a span.
use Rattle.std.specs.Prelude.{ℕ, ◌==◌, ◌++◌, Option, Some, None, List, codes, decimal, if◌then◌else◌}
use Rattle.span_meter.specs.declared.seen.SeenDistances.{SeenDistances}

-- the front of the line of a span with pairs (choice of this profile)
abbrev pub pairs_text : (name : List ℕ) → SeenDistances → List ℕ
pairs_text name s = codes "span " ++ name ++ codes " seen " ++ decimal s.pairs ++ codes " least " ++ decimal s.least ++ codes " most " ++ decimal s.most

-- that of a span without pairs (choice of this profile)
abbrev pub no_pairs_text : (name : List ℕ) → List ℕ
no_pairs_text name = codes "span " ++ name ++ codes " seen 0"

-- that of any span
abbrev pub front_text : (name : List ℕ) → SeenDistances → List ℕ
front_text name s = if s.pairs == 0 then no_pairs_text name else pairs_text name s

-- the end of the line, with the clock in which X and Y are no longer as assumed, if there is one (choice of this profile)
abbrev pub end_text : (assumed : Option ℕ) → List ℕ
end_text None = codes "\n"
end_text (Some clock) = codes " assumed up to " ++ decimal clock ++ codes "\n"

-- The line of what was measured of the span with this name.
unfoldable pub seen_line : (name : List ℕ) → SeenDistances → List ℕ
seen_line name s = front_text name s ++ end_text s.assumed
