-- Assumptions that fit one after the other are those that a span may have.
use Rattle.std.proofs.Common.{◌≡◌, ℕ, ◌+◌, ◌*◌, ◌<◌, ◌≤◌, ◌++◌, max, nat_le, nat_lt, ◌&&◌, cond, true, Option, Some, None, Ok, Err, List, [], ◌∷◌, length, length-append, map, inl, inr, refl, ap, subst, sym, ◌∙◌, arith}
use Rattle.std.specs.List.{list_all}
use Rattle.std.proofs.Math.Nat.{mul_comm}
use Rattle.std.proofs.lemmas.Bool.{and_parts, and_from, cases_lt, le-leb}
use Rattle.std.proofs.lemmas.List.{map-id}
use Rattle.std.proofs.lemmas.List.Folds.{list_all-append}
use Rattle.pin_matrix.specs.declared.assume.Assumption.{Assumption}
use Rattle.pin_matrix.specs.declared.assume.Range.{Range as Numbers}
use Rattle.pin_matrix.specs.Assumptions.{has_number, most_in, raised_x, raised_y, most_x, most_y, most_pairs, are_few_pairs, is_assumption, is_each_one, are_few, are_assumptions}
use Rattle.toml.specs.declared.value.Value.{Value}
use Rattle.toml.specs.Data.{Data, Members}
use Rattle.toml.specs.View.{items_view}
use Rattle.block_config.specs.declared.fault.ConfigKind.TheVariants.{Range}
use Rattle.setup_keys.specs.Block.{MachineKeys}
use Rattle.block_config.specs.Assume.{pairs_fit, fits, assumption_at, assumption_of, assume_at, range_in}
use Rattle.block_config.specs.Programs.{Loaded}
use Rattle.block_config.specs.Spans.{span_names, name_at, SpanValues, values_at, load_of_span, span_keys_of, span_at}
use Rattle.block_config.specs.Tables.{and_then, are_known}

-- one assumption more raises the greatest number to its own
x_more : (most : ℕ) (items : List Assumption) (a : Assumption) → raised_x most (items ++ a ∷ []) ≡ max (raised_x most items) (most_in a.x)
unfolding raised_x
x_more most [] a = refl
x_more most (b ∷ items) a = x_more (max most (most_in b.x)) items a

y_more : (most : ℕ) (items : List Assumption) (a : Assumption) → raised_y most (items ++ a ∷ []) ≡ max (raised_y most items) (most_in a.y)
unfolding raised_y
y_more most [] a = refl
y_more most (b ∷ items) a = y_more (max most (most_in b.y)) items a

pub most_x_more : (items after : List Assumption) (a : Assumption) (x : ℕ) → x ≡ most_x items → after ≡ items ++ a ∷ [] → max x (most_in a.x) ≡ most_x after
most_x_more items after a x is more = rw (is, more, x_more 0 items a) refl

pub most_y_more : (items after : List Assumption) (a : Assumption) (y : ℕ) → y ≡ most_y items → after ≡ items ++ a ∷ [] → max y (most_in a.y) ≡ most_y after
most_y_more items after a y is more = rw (is, more, y_more 0 items a) refl

-- the pairs are as many the other way round
pairs_turned : (x y : ℕ) → are_few_pairs x y ≡ are_few_pairs y x
pairs_turned x y = ap (λ (n : ℕ). nat_le n most_pairs) (mul_comm (x + 2) (y + 2))

-- the greater of two is one of them
greater_is : (P : ℕ → Type 0) (a b : ℕ) → P a → P b → P (max a b)
greater_is P a b p q = elim (cases_lt a b) [
  | inl l ↦ (let e : b ≡ max a b = omega (arith, l) in subst P e q)
  | inr g ↦ (let e : a ≡ max a b = omega (arith, g) in subst P e p)
]

fits_beside : (x y : ℕ) (r : Option Numbers) → are_few_pairs x y ≡ true → pairs_fit y r ≡ true → are_few_pairs (max x (most_in r)) y ≡ true
fits_beside x y None few fit = let e : x ≡ max x 0 = omega arith in subst (λ m. are_few_pairs m y ≡ true) e few
fits_beside x y (Some r) few fit = greater_is (λ m. are_few_pairs m y ≡ true) x r.hi few (and_parts (nat_le r.lo r.hi) (are_few_pairs r.hi y) fit).1

fits_turned : (x y : ℕ) (r : Option Numbers) → are_few_pairs x y ≡ true → pairs_fit x r ≡ true → are_few_pairs x (max y (most_in r)) ≡ true
fits_turned x y r few fit = pairs_turned x (max y (most_in r)) ∙ fits_beside y x r (pairs_turned y x ∙ few) fit

has_one : (other : ℕ) (r : Option Numbers) → pairs_fit other r ≡ true → has_number r ≡ true
has_one other None fit = refl
has_one other (Some r) fit = (and_parts (nat_le r.lo r.hi) (are_few_pairs r.hi other) fit).0

record Fits (x y : ℕ) (a : Assumption) : Type 0 where
  address : nat_lt a.address 32 ≡ true
  of_x : pairs_fit y a.x ≡ true
  of_y : pairs_fit (max x (most_in a.x)) a.y ≡ true

fits_parts : (x y : ℕ) (a : Assumption) → fits x y a ≡ true → Fits x y a
fits_parts x y a fit =
    let both = and_parts (nat_lt a.address 32) (pairs_fit y a.x && pairs_fit (max x (most_in a.x)) a.y) fit in
    let ranges = and_parts (pairs_fit y a.x) (pairs_fit (max x (most_in a.x)) a.y) both.1 in
    record { address = both.0; of_x = ranges.0; of_y = ranges.1 }

is_one : (x y : ℕ) (a : Assumption) → Fits x y a → is_assumption a ≡ true
is_one x y a f =
    and_from (nat_lt a.address 32 && has_number a.x) (has_number a.y)
    (and_from (nat_lt a.address 32) (has_number a.x) f.address (has_one y a.x f.of_x)) (has_one (max x (most_in a.x)) a.y f.of_y)

each_more : (items : List Assumption) (a : Assumption) → is_each_one items ≡ true → is_assumption a ≡ true → is_each_one (items ++ a ∷ []) ≡ true
each_more items a each here = rw (list_all-append (λ b. is_assumption b) items (a ∷ []), each, here) refl

-- one that fits more
pub one_more : (items after : List Assumption) (a : Assumption) (x y : ℕ) → x ≡ most_x items → y ≡ most_y items → are_assumptions items ≡ true → length items < 16 → fits x y a ≡ true → after ≡ items ++ a ∷ [] → are_assumptions after ≡ true
one_more items after a x y is_x is_y are few fit more =
    let f = fits_parts x y a fit in
    let so_far = and_parts (are_few items) (are_few_pairs (most_x items) (most_y items)) are in
    let each = (and_parts (nat_le (length items) 16) (is_each_one items) so_far.0).1 in
    let pairs : are_few_pairs x y ≡ true = rw (is_x, is_y) so_far.1 in
    let wide : are_few_pairs (max x (most_in a.x)) (max y (most_in a.y)) ≡ true = fits_turned (max x (most_in a.x)) y a.y (fits_beside x y a.x pairs f.of_x) f.of_y in
    let ends : are_few_pairs (most_x after) (most_y after) ≡ true = rw (← most_x_more items after a x is_x more, ← most_y_more items after a y is_y more) wide in
    let count : length after ≤ 16 = rw more (omega (arith, length-append items (a ∷ []), few)) in
    and_from (are_few after) (are_few_pairs (most_x after) (most_y after))
    (and_from (nat_le (length after) 16) (is_each_one after) (le-leb (length after) 16 count) (rw more (each_more items a each (is_one x y a f)))) ends

-- what was taken is the list
pub taken_whole : (items found : List Assumption) → are_assumptions items ≡ true → Some found ≡ cond (are_assumptions items) (Some items) None → items ≡ found
taken_whole items found are e =
    let made : ◌≡◌ {A = Option (List Assumption)} (Some found) (Some items) = e ∙ rw are refl in
    cc

-- what comes before asks for X and Y up to its greatest numbers
pub asked_for : (span : ℕ) (load : Option Loaded) (place x y : ℕ) (items : List Assumption) (d : Data) → x ≡ most_x items → y ≡ most_y items
    → assumption_of span load place (map (λ (a : Assumption). a) items) d ≡ assumption_at span load place x y d
asked_for span load place x y items d is_x is_y = rw (map-id items, is_x, is_y) refl

-- a range has two numbers
pub less_than_two : (other : ℕ) (vs : List Value) → length vs < 2 → Err Range ≡ range_in other (items_view vs)
less_than_two other [] less = refl
less_than_two other (a ∷ []) less = refl
less_than_two other (a ∷ b ∷ vs) less = absurd (omega (arith, less))

pub more_than_two : (other : ℕ) (vs : List Value) → 2 < length vs → Err Range ≡ range_in other (items_view vs)
more_than_two other [] more = absurd (omega (arith, more))
more_than_two other (a ∷ []) more = absurd (omega (arith, more))
more_than_two other (a ∷ b ∷ []) more = absurd (omega (arith, more))
more_than_two other (a ∷ b ∷ d ∷ vs) more = refl

-- what a table of known keys says, with what it assumes
pub said_with : (place : ℕ) (machines : List (Option MachineKeys)) (loads : List Loaded) (t : Members) (name : List ℕ) (v : SpanValues) (load : Option Loaded)
    → are_known span_names t ≡ true → Ok name ≡ name_at t → Ok v ≡ values_at machines loads t → load ≡ load_of_span machines loads v.ends.machine
    → span_at place machines loads t ≡ and_then (assume_at place load t) (λ assume. Ok (span_keys_of name v assume))
said_with place machines loads t name v load known n vs l = rw (known, ← n, ← vs, l) refl
