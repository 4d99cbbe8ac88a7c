-- Arrays of a configuration, read one element after the other (choice of this profile).
--   count_items   how many elements an array has
--   all_items     each element passes a test
--   is_one        an element is a table, a number or a text
--   gather        what the elements from a place on give, after what those before them gave
use Rattle.std.specs.Prelude.{ℕ, suc, ◌+◌, ◌++◌, ◌&&◌, is_some, Bool, true, List, [], ◌∷◌, Result, Ok}
use Rattle.toml.specs.Data.{Data, Items, no_items, item, as_integer, as_str, as_table}
use Rattle.block_config.specs.declared.arrays.Element.{Element}
use Rattle.block_config.specs.declared.arrays.Element.TheVariants.{Table, Number, Text}
use Rattle.block_config.specs.Tables.{and_then}

-- how many elements an array has
abbrev pub count_items : Items → ℕ
count_items no_items = 0
count_items (item d ds) = suc (count_items ds)

-- each element passes a test
abbrev pub all_items : (Data → Bool) → Items → Bool
all_items test no_items = true
all_items test (item d ds) = test d && all_items test ds

-- an element is a table, a number or a text
abbrev pub is_one : Element → Data → Bool
is_one Table = λ d. is_some (as_table d)
is_one Number = λ d. is_some (as_integer d)
is_one Text = λ d. is_some (as_str d)

-- what the elements from a place on give, in order after what those before them gave, or the first fault
unfoldable pub gather : {X E : Type 0} → (ℕ → List X → Data → Result X E) → ℕ → List X → Items → Result (List X) E
gather read place front no_items = Ok front
gather read place front (item d rest) = and_then (read place front d) (λ x. gather read (place + 1) (front ++ x ∷ []) rest)
