-- What clap's getters give, by the values of its rows.
use Rattle.std.proofs.Common.{◌≡◌, ◌^◌, ◌&&◌, ℕ, Bool, true, false, [], ◌∷◌, length, nat_lt, Option, Some, None, Result, Ok, Err, refl, lt-ltb, ltb-true}
use Rattle.std.specs.List.{list_all}
use Rattle.std.specs.Option.{option_map, option_map_or, unwrap_or}
use Rattle.std.specs.Char.{digit_value}
use Rattle.std.specs.Str.Parse.{AllDigits, ParsesUnsigned, digits_value, without_leading_plus}
use Rattle.std.specs.Borrow.{Bor}
use Rattle.clap.specs.Walk.{Text}
use Rattle.clap.specs.Matches.{ReadsOne}
use Rattle.clap.proofs.WalkLemmas.{both}
use Rattle.command_line.specs.Words.{number_in}

-- the text of a reference, or the empty one
pub text_or_empty : (o : Option (Bor Text)) (other : Bor Text) (v : Option Text) → option_map (λ s. s.now) o ≡ v
    → other.now ≡ [] → (unwrap_or o other).now ≡ unwrap_or v []
text_or_empty None other None is empty = empty
text_or_empty (Some s) other (Some t) is empty = cc
text_or_empty None other (Some t) is empty = cc
text_or_empty (Some s) other None is empty = cc

all_digits : (ds : Text) → AllDigits 10 ds → list_all (λ d. nat_lt (digit_value d) 10) ds ≡ true
all_digits [] h = refl
all_digits (d ∷ ds) h = rw (lt-ltb (digit_value d) 10 h.0) (all_digits ds h.1)

digits_all : (ds : Text) → list_all (λ d. nat_lt (digit_value d) 10) ds ≡ true → AllDigits 10 ds
digits_all [] e = tt
digits_all (d ∷ ds) e =
    let parts = both _ _ e in
    (ltb-true _ _ parts.0, digits_all ds parts.1)

abbrev is_number : Text → Bool
is_number ds =
    nat_lt 0 (length ds) && list_all (λ d. nat_lt (digit_value d) 10) ds && nat_lt (digits_value 10 ds) (2 ^ 64)

-- a text that reads as a number of 64 bits
number_read : (E : Type 0) (text : Text) (n : ℕ) → ParsesUnsigned {E = E} 64 10 text (Ok n) → n ≡ number_in text
number_read E text n h =
    let ds = without_leading_plus text in
    rw (lt-ltb 0 (length ds) h.0.0.0, all_digits ds h.0.0.1, lt-ltb (digits_value 10 ds) (2 ^ 64) h.0.1) h.1

-- and one that doesn't
no_number_read : (E : Type 0) (text : Text) (e : E) → ParsesUnsigned 64 10 text (Err e) → 0 ≡ number_in text
no_number_read E text e h = go (is_number (without_leading_plus text)) refl
  where
    go : (b : Bool) → is_number (without_leading_plus text) ≡ b → 0 ≡ number_in text
    go false t = rw t refl
    go true t =
        let outer = both _ _ t in
        let inner = both _ _ outer.0 in
        absurd (h ((ltb-true _ _ inner.0, digits_all (without_leading_plus text) inner.1), ltb-true _ _ outer.1))

-- the number that `get_one` reads, or 0
pub number_or_zero : (E : Type 0) (G : Text → Result ℕ E → Type 0)
    → ((t : Text) (x : Result ℕ E) → G t x → ParsesUnsigned 64 10 t x) → (o : Option Text) (r : Option ℕ)
    → (o ≡ None → r ≡ None) → ((t : Text) → o ≡ Some t → ReadsOne G t r)
    → unwrap_or r 0 ≡ option_map_or number_in o 0
number_or_zero E G only None r none value = rw (none refl) refl
number_or_zero E G only (Some t) (Some n) none value = number_read E t n (only t (Ok n) (value t refl))
number_or_zero E G only (Some t) None none value =
    let read = value t refl in no_number_read E t read.0 (only t (Err read.0) read.1)
