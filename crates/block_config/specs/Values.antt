-- The value of a key by its description, or what is wrong with it: a key that is absent has its default, or is missing; a value
-- of another type comes before one outside its range (choice of this profile).
use Rattle.std.specs.Prelude.{ℕ, ℤ, pos, negsuc, nat_le, ◌&&◌, Bool, if◌then◌else◌, Option, Some, None, List, Result, Ok, Err}
use Rattle.toml.specs.Data.{Data, as_integer, as_bool, as_str}
use Rattle.block_config.specs.declared.fault.ConfigKind.{ConfigKind}
use Rattle.block_config.specs.declared.fault.ConfigKind.TheVariants.{WrongType, Range, Missing}
use Rattle.block_config.specs.Keys.{Numbered, Flagged}

-- what was returned, with what it holds seen by a view
abbrev pub map_ok : {X Y E : Type 0} → (X → Y) → Result X E → Result Y E
map_ok f (Ok x) = Ok (f x)
map_ok f (Err e) = Err e

-- a value, or what is wrong where there is none
abbrev pub or_fault : {X : Type 0} → ConfigKind → Option X → Result X ConfigKind
or_fault kind (Some x) = Ok x
or_fault kind None = Err kind

-- a number in a range
abbrev pub in_range : (low high : ℕ) → ℤ → Result ℕ ConfigKind
in_range low high (pos n) = if nat_le low n && nat_le n high then Ok n else Err Range
in_range low high (negsuc n) = Err Range

-- a number in a range, of a value that may be none
abbrev pub range_of : (low high : ℕ) → Option ℤ → Result ℕ ConfigKind
range_of low high (Some z) = in_range low high z
range_of low high None = Err WrongType

-- a value that is a number in a range
abbrev pub number_in : (low high : ℕ) → Data → Result ℕ ConfigKind
number_in low high d = range_of low high (as_integer d)

-- the number of a key
abbrev pub number_of : Numbered → Option Data → Result ℕ ConfigKind
number_of k None = or_fault Missing k.default
number_of k (Some d) = number_in k.low k.high d

-- the word of a key that may be absent
abbrev pub word_of : Option Data → Result (Option ℕ) ConfigKind
word_of None = Ok None
word_of (Some d) = map_ok Some (number_in 0 65535 d)

-- the flag of a key
abbrev pub flag_of : Flagged → Option Data → Result Bool ConfigKind
flag_of k None = Ok k.default
flag_of k (Some d) = or_fault WrongType (as_bool d)

-- a text, of a value that may be none
abbrev pub some_text : Option (List ℕ) → Result (Option (List ℕ)) ConfigKind
some_text (Some t) = Ok (Some t)
some_text None = Err WrongType

-- the text of a key that may be absent
abbrev pub text_of : Option Data → Result (Option (List ℕ)) ConfigKind
text_of None = Ok None
text_of (Some d) = some_text (as_str d)
