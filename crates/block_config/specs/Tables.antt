-- Reading a table of a configuration by the list of its keys, in order (choice of this profile).
--   and_then     what follows on a value, unless there is a fault
--   on_key       what is wrong with a value is a fault of its key
--   has_key      a table has a key
--   number_at, flag_at   the value of a table's key
--   each_at      the values of keys in order, or the first fault
--   AreWithin    values are in the ranges of keys
--   are_known    a table has no key but these
--   section_at   what a table gives: an unknown key comes first, and other faults are of the table's keys
--   element_of   an element of an array of tables
use Rattle.std.specs.Prelude.{ℕ, ◌+◌, ◌≤◌, slice_index, is_some, Bool, true, ◌&&◌, if◌then◌else◌, Option, Some, None, List, [], ◌∷◌, Result, Ok, Err}
use Rattle.std.specs.List.{list_any}
use Rattle.std.specs.Str.{bytes_eq}
use Rattle.toml.specs.Data.{Members, no_members, member, get_member}
use Rattle.block_config.specs.declared.fault.ConfigKind.{ConfigKind}
use Rattle.block_config.specs.declared.fault.ConfigKind.TheVariants.{UnknownKey, WrongType}
use Rattle.block_config.specs.declared.path.Section.{Section}
use Rattle.block_config.specs.declared.table.Lack.{Lack}
use Rattle.block_config.specs.Answer.{ConfigRefusal, refused}
use Rattle.block_config.specs.Fault.{section_path, key_path}
use Rattle.block_config.specs.Keys.{Numbered, Flagged}
use Rattle.block_config.specs.Values.{number_of, flag_of}

-- what follows on a value, unless there is a fault
abbrev pub and_then : {X Y E : Type 0} → Result X E → (X → Result Y E) → Result Y E
and_then (Ok x) next = next x
and_then (Err e) next = Err e

-- what is wrong with a value is a fault of its key
abbrev pub on_key : {X : Type 0} → List ℕ → Result X ConfigKind → Result X ConfigRefusal
on_key name (Ok x) = Ok x
on_key name (Err kind) = refused name kind

-- what the code says of a key
abbrev pub refusal_of : Lack → ConfigRefusal
refusal_of l = record { key = l.key.now; kind = l.kind }

-- what was returned, with what it holds seen by a view
abbrev pub seen : {X Y : Type 0} → (X → Y) → Result X Lack → Result Y ConfigRefusal
seen f (Ok x) = Ok (f x)
seen f (Err l) = Err (refusal_of l)

-- a table has a key
abbrev pub has_key : List ℕ → Members → Bool
has_key key t = is_some (get_member key t)

-- the number of a key
abbrev pub number_at : Members → Numbered → Result ℕ ConfigRefusal
number_at t k = on_key k.name (number_of k (get_member k.name t))

-- the flag of a key
abbrev pub flag_at : Members → Flagged → Result Bool ConfigRefusal
flag_at t k = on_key k.name (flag_of k (get_member k.name t))

-- the values of keys in order, or the first fault
unfoldable pub each_at : {K V : Type 0} → (K → Result V ConfigRefusal) → List K → Result (List V) ConfigRefusal
each_at read [] = Ok []
each_at read (k ∷ ks) = and_then (read k) (λ v. and_then (each_at read ks) (λ vs. Ok (v ∷ vs)))

-- the values from a place on are in the ranges of these keys
abbrev pub AreWithin : ℕ → List Numbered → List ℕ → Type 0
AreWithin place [] values = Unit {0}
AreWithin place (k ∷ ks) values = (k.low ≤ slice_index values place) × (slice_index values place ≤ k.high) × AreWithin (place + 1) ks values

-- a table has no key but these
abbrev pub are_known : List (List ℕ) → Members → Bool
are_known names no_members = true
are_known names (member key d rest) = list_any (bytes_eq key) names && are_known names rest

-- a fault of a key has its table
abbrev pub in_section : {X : Type 0} → Section → Result X ConfigRefusal → Result X ConfigRefusal
in_section section (Ok x) = Ok x
in_section section (Err r) = refused (key_path section r.key) r.kind

-- an unknown key comes first, and is on the table
abbrev pub section_at : {X : Type 0} → Section → List (List ℕ) → Members → Result X ConfigRefusal → Result X ConfigRefusal
section_at section names t inner = if are_known names t then in_section section inner else refused (section_path section) UnknownKey

-- an element of an array of tables; that it is a table is looked at before any element is read
abbrev pub element_of : {X : Type 0} → List ℕ → Option Members → (Members → Result X ConfigRefusal) → Result X ConfigRefusal
element_of name None read = refused name WrongType
element_of name (Some t) read = read t
