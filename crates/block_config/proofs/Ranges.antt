-- Numbers that were read are in their keys' ranges.
use Rattle.std.proofs.Common.{◌≡◌, ℕ, ℤ, pos, negsuc, ◌+◌, ◌≤◌, nat_le, ◌&&◌, cond, Bool, true, false, Option, Some, None, List, [], ◌∷◌, ◌++◌, Result, Ok, Err, map, length, get_or, unwrap_or, append_assoc, length-append, slice_index, refl, ap, arith}
use Rattle.std.specs.List.{list_all, AllByRecursion}
use Rattle.std.proofs.lemmas.Bool.{and_parts, leb-true}
use Rattle.std.proofs.lemmas.Bool.Decides.{nat_tests}
use Rattle.toml.specs.Data.{Data, Members, get_member, as_integer}
use Rattle.block_config.specs.declared.fault.ConfigKind.{ConfigKind}
use Rattle.block_config.specs.declared.fault.ConfigKind.TheVariants.{Range, Missing}
use Rattle.block_config.specs.declared.keys.NumberKey.{NumberKey}
use Rattle.block_config.specs.Keys.{Numbered, described}
use Rattle.block_config.specs.Values.{or_fault, in_range, range_of, number_of}
use Rattle.block_config.specs.Tables.{and_then, on_key, number_at, each_at, AreWithin}

pub record Goes {X Y E : Type 0} (r : Result X E) (next : X → Result Y E) (y : Y) : Type 0 where
  pub value : X
  pub found : r ≡ Ok value
  pub rest : next value ≡ Ok y

pub goes_on : {X Y E : Type 0} (r : Result X E) (next : X → Result Y E) (y : Y) → and_then r next ≡ Ok y → Goes r next y
goes_on (Ok x) next y e = record { value = x; found = refl; rest = e }
goes_on (Err e') next y e = cc

abbrev pub IsIn : ℕ → ℕ → ℕ → Type 0
IsIn low high n = (low ≤ n) × (n ≤ high)

in_tested : (low high m n : ℕ) (a b : Bool) → nat_le low m ≡ a → nat_le m high ≡ b → cond (a && b) (Ok m) (Err Range) ≡ Ok n → IsIn low high n
in_tested low high m n true true p q e =
    let same : m ≡ n = cc in
    (grind (arith, nat_tests), grind (arith, nat_tests))
in_tested low high m n true false p q e = cc
in_tested low high m n false b p q e = cc

in_ranged : (low high : ℕ) (z : ℤ) (n : ℕ) → in_range low high z ≡ Ok n → IsIn low high n
in_ranged low high (pos m) n e = in_tested low high m n (nat_le low m) (nat_le m high) refl refl e
in_ranged low high (negsuc m) n e = cc

pub in_read : (low high : ℕ) (z : Option ℤ) (n : ℕ) → range_of low high z ≡ Ok n → IsIn low high n
in_read low high (Some z) n e = in_ranged low high z n e
in_read low high None n e = cc

in_default : (low high : ℕ) (d : Option ℕ) (n : ℕ) → low ≤ unwrap_or d low → unwrap_or d low ≤ high → or_fault Missing d ≡ Ok n → IsIn low high n
in_default low high (Some d) n a b e = let same : d ≡ n = cc in (omega arith, omega arith)
in_default low high None n a b e = cc

-- a key's default is in its range, or it has none
pub record IsDefaulted (k : Numbered) : Type 0 where
  low : k.low ≤ unwrap_or k.default k.low
  high : unwrap_or k.default k.low ≤ k.high

abbrev is_defaulted : Numbered → Bool
is_defaulted k = nat_le k.low (unwrap_or k.default k.low) && nat_le (unwrap_or k.default k.low) k.high

defaulted : (k : Numbered) → is_defaulted k ≡ true → IsDefaulted k
defaulted k h =
    let parts = and_parts (nat_le k.low (unwrap_or k.default k.low)) (nat_le (unwrap_or k.default k.low) k.high) h in
    record { low = leb-true k.low (unwrap_or k.default k.low) parts.0; high = leb-true (unwrap_or k.default k.low) k.high parts.1 }

-- keys whose defaults are numerals in their ranges
pub all_defaulted : (ks : List Numbered) → list_all is_defaulted ks ≡ true → AllByRecursion IsDefaulted ks
all_defaulted [] h = tt
all_defaulted (k ∷ ks) h =
    let parts = and_parts (is_defaulted k) (list_all is_defaulted ks) h in
    (defaulted k parts.0, all_defaulted ks parts.1)

all_described : (ks : List NumberKey) → AllByRecursion IsDefaulted (map described ks)
all_described [] = tt
all_described (k ∷ ks) = (record { low = k.low_default; high = k.high_default }, all_described ks)

in_value : (k : Numbered) (d : Option Data) (n : ℕ) → IsDefaulted k → number_of k d ≡ Ok n → IsIn k.low k.high n
in_value k None n h e = in_default k.low k.high k.default n h.low h.high e
in_value k (Some d) n h e = in_read k.low k.high (as_integer d) n e

pub ok_same : {X E : Type 0} (x y : X) → ◌≡◌ {A = Result X E} (Ok x) (Ok y) → x ≡ y
ok_same x y e = cc

pub off_key : {X : Type 0} (name : List ℕ) (r : Result X ConfigKind) (x : X) → on_key name r ≡ Ok x → r ≡ Ok x
off_key name (Ok y) x e = ap Ok cc
off_key name (Err kind) x e = cc

index_after : (front rest : List ℕ) (v : ℕ) → get_or (front ++ v ∷ rest) (length front) 0 ≡ v
index_after [] rest v = refl
index_after (x ∷ front) rest v = index_after front rest v

within_step : (k : Numbered) (ks : List Numbered) (v : ℕ) (rest vs front : List ℕ) (place : ℕ) → vs ≡ v ∷ rest → length front ≡ place → IsIn k.low k.high v
    → AreWithin (place + 1) ks ((front ++ v ∷ []) ++ rest) → AreWithin place (k ∷ ks) (front ++ vs)
within_step k ks v rest vs front place all l here more =
    let there : slice_index (front ++ v ∷ rest) place ≡ v = rw (← l) (index_after front rest v) in
    let others : AreWithin (place + 1) ks (front ++ v ∷ rest) = rw append_assoc at more in
    rw (all, there) (here.0, here.1, others)

-- a number that was read is in its key's range
pub number_within : (t : Members) (k : Numbered) (n : ℕ) → is_defaulted k ≡ true → number_at t k ≡ Ok n → IsIn k.low k.high n
number_within t k n h e = in_value k (get_member k.name t) n (defaulted k h) (off_key k.name _ n e)

pub all_within : (t : Members) (ks : List Numbered) (vs front : List ℕ) (place : ℕ) → AllByRecursion IsDefaulted ks → length front ≡ place → each_at (number_at t) ks ≡ Ok vs → AreWithin place ks (front ++ vs)
unfolding each_at
all_within t [] vs front place h l e = tt
all_within t (k ∷ ks) vs front place h l e =
    let first = goes_on (number_at t k) (λ v. and_then (each_at (number_at t) ks) (λ vs. Ok (v ∷ vs))) vs e in
    let others = goes_on (each_at (number_at t) ks) (λ vs. Ok (first.value ∷ vs)) vs first.rest in
    let here : IsIn k.low k.high first.value = in_value k (get_member k.name t) first.value h.0 (off_key k.name _ first.value first.found) in
    within_step k ks first.value others.value vs front place (cc) l here
    (all_within t ks others.value (front ++ first.value ∷ []) (place + 1) h.1 (simp length-append (omega arith)) others.found)

pub are_within : (t : Members) (ks : List NumberKey) (vs front : List ℕ) (place : ℕ) → length front ≡ place → each_at (number_at t) (map described ks) ≡ Ok vs → AreWithin place (map described ks) (front ++ vs)
are_within t ks vs front place l e = all_within t (map described ks) vs front place (all_described ks) l e
