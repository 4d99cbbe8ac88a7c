-- How a trace of what is inside a block tells its callers which machines it declares: words of private clauses.
use Rattle.std.specs.Prelude.{ℕ, ◌+◌, ◌*◌, Bool, Option, Some, None, List, [], ◌∷◌}
use Rattle.vcd_trace.specs.InsideText.{bit_of}

-- the configured machines as one number, another for each list
abbrev pub places_code : List Bool → ℕ
places_code [] = 1
places_code (here ∷ rest) = bit_of here + 2 * places_code rest

-- bytes that may be untold, as numbers
abbrev pub taken_code : Option (List ℕ) → List ℕ
taken_code None = 0 ∷ []
taken_code (Some bytes) = 1 ∷ bytes

-- what a trace names in the place of what its sink had taken: which machines are configured, and what its sink had taken
abbrev pub told_first : (configured : List Bool) (taken : Option (List ℕ)) → Option (List ℕ)
told_first configured taken = Some (places_code configured ∷ taken_code taken)
