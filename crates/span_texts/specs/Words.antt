-- The words of the lines (choice of this profile).
--   known_text       what is known of X or Y
--   level_text       a pin's level
--   cause_ending     how a line ends that has a cause
--   told_at          the line that tells something of a span at a context
--   told_number      the line that tells a number of a span
use Rattle.std.specs.Prelude.{ℕ, ◌++◌, Bool, true, false, Option, Some, None, List, codes, decimal}
use Rattle.span_step.specs.declared.cause.Cause.{Cause}
use Rattle.span_step.specs.declared.cause.Cause.TheVariants.{U1, U2, U3, U4, U6}
use Rattle.span_step.specs.Contexts.{Context}

-- what is known of X or Y: a number, or any
abbrev pub known_text : Option ℕ → List ℕ
known_text None = codes "any"
known_text (Some n) = decimal n

-- a pin's level
abbrev pub level_text : Bool → List ℕ
level_text false = codes "0"
level_text true = codes "1"

-- the levels of the from-pin and the to-pin
abbrev pub levels_text : (from to : Bool) → List ℕ
levels_text from to = codes " from " ++ level_text from ++ codes " to " ++ level_text to

-- how a line ends that has a cause: with its code
abbrev pub cause_ending : Cause → List ℕ
cause_ending U1 = codes ": U1"
cause_ending U2 = codes ": U2"
cause_ending U3 = codes ": U3"
cause_ending U4 = codes ": U4"
cause_ending U6 = codes ": U6"

-- The line that tells something of a span at a context, with these words for its X and Y and its levels. It begins with some
-- text, such as the program's name.
abbrev pub told_line : (front name told : List ℕ) → (address : ℕ) → (x y levels ending : List ℕ) → List ℕ
told_line front name told address x y levels ending =
    front ++ codes "span " ++ name ++ told ++ decimal address ++ codes " x " ++ x ++ codes " y " ++ y ++ levels ++ ending ++ codes "\n"

-- the same with the words of the context
abbrev pub told_at : (front name told : List ℕ) → Context → (ending : List ℕ) → List ℕ
told_at front name told k ending =
    told_line front name told k.address (known_text k.x) (known_text k.y) (levels_text k.from k.to) ending

-- the line that tells a number of a span, with this ending
abbrev pub told_number : (front name told : List ℕ) → (number : ℕ) → (ending : List ℕ) → List ℕ
told_number front name told number ending = front ++ codes "span " ++ name ++ told ++ decimal number ++ ending
