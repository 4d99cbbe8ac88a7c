-- The next step of a definition whose steps may give nothing, for its do-notation.
use Rattle.std.specs.Prelude.{Option, option_and_then}

-- the next step, where there is something so far
infixl 10 ◌>>=◌
abbrev pub ◌>>=◌ : {X Y : Type 0} → Option X → (X → Option Y) → Option Y
found >>= next = option_and_then next found
