-- What a span assumes, by its key `assume` (choice of this profile).
--   fits             an assumption that there may be after others
--   assumption_in    an assumption by its keys
--   assumptions_of   those of all tables
--   assume_at        those of a span's table
use Rattle.std.specs.Prelude.{ℕ, max, nat_le, nat_lt, ◌&&◌, is_some, Bool, true, if◌then◌else◌, Option, Some, None, List, [], ◌∷◌, Result, Ok, Err, codes}
use Rattle.toml.specs.Data.{Data, Items, no_items, item, Members, as_array, as_integer, as_str, as_table, get_member}
use Rattle.pin_matrix.specs.Assumptions.{are_few_pairs, most_in, most_x, most_y}
use Rattle.pin_matrix.specs.declared.assume.Assumption.{Assumption}
use Rattle.pin_matrix.specs.declared.assume.Range.{Range as Numbers}
use Rattle.block_config.specs.declared.fault.ConfigKind.{ConfigKind}
use Rattle.block_config.specs.declared.fault.ConfigKind.TheVariants.{WrongType, Range, NoLabel, Missing, Many}
use Rattle.block_config.specs.declared.path.Section.TheVariants.{Assume, Span}
use Rattle.block_config.specs.Answer.{ConfigRefusal, refused}
use Rattle.block_config.specs.Arrays.{all_items, count_items, gather}
use Rattle.block_config.specs.Fault.{key_path}
use Rattle.block_config.specs.Machines.{moved_place}
use Rattle.block_config.specs.Programs.{Loaded, label_of}
use Rattle.block_config.specs.Tables.{and_then, on_key, in_section, section_at, element_of}
use Rattle.block_config.specs.Values.{map_ok, number_in, text_of}

-- the keys of an assumption
abbrev pub assume_names : List (List ℕ)
assume_names = codes "after" ∷ codes "x" ∷ codes "y" ∷ []

-- where the other register is asked for up to this: the least isn't above the greatest, and there aren't too many pairs
abbrev pub is_range : (other : ℕ) → Numbers → Bool
is_range other r = nat_le r.lo r.hi && are_few_pairs r.hi other

-- numbers from a least to a greatest
abbrev pub range_by : (other lo hi : ℕ) → Result Numbers ConfigKind
range_by other lo hi = if nat_le lo hi && are_few_pairs hi other then Ok (record { lo = lo; hi = hi }) else Err Range

-- the least and the greatest number, which are two
abbrev pub range_in : (other : ℕ) → Items → Result Numbers ConfigKind
range_in other (item first (item last no_items)) =
    and_then (number_in 0 65535 first) (λ lo. and_then (number_in 0 65535 last) (λ hi. range_by other lo hi))
range_in other _ = Err Range

-- an array of numbers
abbrev pub range_of : (other : ℕ) → Option Items → Result Numbers ConfigKind
range_of other None = Err WrongType
range_of other (Some ds) = if all_items (λ d. is_some (as_integer d)) ds then range_in other ds else Err WrongType

-- the range of a value, if there is one
abbrev pub range_or_none : (other : ℕ) → Option Data → Result (Option Numbers) ConfigKind
range_or_none other None = Ok None
range_or_none other (Some d) = map_ok Some (range_of other (as_array d))

-- the range of a key
abbrev pub range_at : List ℕ → (other : ℕ) → Members → Result (Option Numbers) ConfigRefusal
range_at key other t = on_key key (range_or_none other (get_member key t))

-- the address of a label of a machine's program
abbrev pub label_in : Option Loaded → List ℕ → Result ℕ ConfigKind
label_in None name = Err NoLabel
label_in (Some l) name = moved_place l.address (label_of l.program name)

-- the address of a label, which is required
abbrev pub label_or_none : Option Loaded → Option (List ℕ) → Result ℕ ConfigKind
label_or_none load None = Err Missing
label_or_none load (Some name) = label_in load name

-- the address of the label that an assumption is of
abbrev pub after_at : Option Loaded → Members → Result ℕ ConfigRefusal
after_at load t = on_key (codes "after") (and_then (text_of (get_member (codes "after") t)) (label_or_none load))

-- an assumption says something of X or of Y
abbrev pub assumption_by : ℕ → Option Numbers → Option Numbers → Result Assumption ConfigRefusal
assumption_by address None None = refused (codes "x") Missing
assumption_by address (Some x) y = Ok (record { address = address; x = Some x; y = y })
assumption_by address None (Some y) = Ok (record { address = address; x = None; y = Some y })

-- a range, if there is one, is one beside this
abbrev pub pairs_fit : (other : ℕ) → Option Numbers → Bool
pairs_fit other None = true
pairs_fit other (Some r) = is_range other r

-- an assumption that there may be after others that ask for X and Y up to these
abbrev pub fits : (x y : ℕ) → Assumption → Bool
fits x y a = nat_lt a.address 32 && (pairs_fit y a.x && pairs_fit (max x (most_in a.x)) a.y)

-- an assumption by its keys, after others that ask for X and Y up to these
abbrev pub assumption_in : (x y : ℕ) → Option Loaded → Members → Result Assumption ConfigRefusal
assumption_in x y load t =
    and_then (after_at load t) (λ address. and_then (range_at (codes "x") y t) (λ xs.
    and_then (range_at (codes "y") (max x (most_in xs)) t) (λ ys. assumption_by address xs ys)))

-- the assumption of the table at a place, after others that ask for X and Y up to these
abbrev pub assumption_at : (span : ℕ) → Option Loaded → (place x y : ℕ) → Data → Result Assumption ConfigRefusal
assumption_at span load place x y d =
    element_of (key_path (Span span) (codes "assume")) (as_table d)
    (λ t. section_at (Assume span place) assume_names t (assumption_in x y load t))

-- the same, after these
abbrev pub assumption_of : (span : ℕ) → Option Loaded → (place : ℕ) → List Assumption → Data → Result Assumption ConfigRefusal
assumption_of span load place front d = assumption_at span load place (most_x front) (most_y front) d

-- those of all tables
abbrev pub assumptions_of : (span : ℕ) → Option Loaded → Items → Result (List Assumption) ConfigRefusal
assumptions_of span load ds = gather (assumption_of span load) 0 [] ds

-- an array of tables, at most 16
abbrev pub tables_in : Option Items → Result Items ConfigKind
tables_in None = Err WrongType
tables_in (Some ds) = if all_items (λ d. is_some (as_table d)) ds then (if nat_le (count_items ds) 16 then Ok ds else Err Many) else Err WrongType

-- those of a value, none where it is absent
abbrev pub assume_of : (span : ℕ) → Option Loaded → Option Data → Result (List Assumption) ConfigRefusal
assume_of span load None = Ok []
assume_of span load (Some d) = and_then (in_section (Span span) (on_key (codes "assume") (tables_in (as_array d)))) (assumptions_of span load)

-- what a span's table assumes
abbrev pub assume_at : (span : ℕ) → Option Loaded → Members → Result (List Assumption) ConfigRefusal
assume_at span load t = assume_of span load (get_member (codes "assume") t)
