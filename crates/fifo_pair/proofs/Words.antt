-- One list and one word: how long the list gets, and which words it has.
use Rattle.std.proofs.Common.{◌≡◌, ℕ, ◌<◌, ◌≤◌, Bool, true, false, Option, Some, None, List, [], ◌∷◌, ◌++◌, length, slice_get, nat_lt, option_to_list, refl, sym, append-nil, length-append, arith, if◌then◌else◌, not, IsSome}
use Rattle.std.proofs.lemmas.Bool.Decides.{nat_tests}
use Rattle.fifo_pair.specs.Fifos.{queued, less_front, if_room, is_dropped}

-- a word goes after all others
pub queued-append : (o : Option ℕ) (words : List ℕ) → queued o words ≡ words ++ option_to_list o
queued-append None words = sym (append-nil words)
queued-append (Some word) words = refl

-- what is let in is what isn't dropped
pub if_room-dropped : (room : ℕ) (words : List ℕ) (o : Option ℕ) → option_to_list (if_room room words o) ≡ (if is_dropped room words o then [] else option_to_list o)
if_room-dropped room words None = refl
if_room-dropped room words (Some word) =
    elim (nat_lt (length words) room) as (λ b. option_to_list (if b then Some word else None) ≡ (if not b then [] else word ∷ [])) [ true ↦ refl | false ↦ refl ]

-- the front that goes out, if it does, and what stays
pub front-less_front : (taken : Bool) (words : List ℕ) → words ≡ (if taken then option_to_list (slice_get words 0) else []) ++ less_front taken words
front-less_front true [] = refl
front-less_front true (word ∷ words) = refl
front-less_front false words = refl

-- taking the front makes no list longer
pub length-less_front : (taken : Bool) (words : List ℕ) → length (less_front taken words) ≤ length words
length-less_front true [] = omega arith
length-less_front true (word ∷ words) = omega arith
length-less_front false words = omega arith

-- no list gets longer than its room
pub length-let_in : (room : ℕ) (words rest : List ℕ) (o : Option ℕ) → length rest ≤ length words → length words ≤ room → length (queued (if_room room words o) rest) ≤ room
length-let_in room words rest None shorter fits = omega arith
length-let_in room words rest (Some word) shorter fits =
    (elim (nat_lt (length words) room) as (λ b. nat_lt (length words) room ≡ b → length (queued (if b then Some word else None) rest) ≤ room)
    [ true ↦ (λ h. grind (arith, nat_tests, length-append rest (word ∷ []))) | false ↦ (λ h. omega arith) ]) refl

-- where there is room for the word, if there is one
pub length-queued : (room : ℕ) (words rest : List ℕ) (o : Option ℕ) → length rest ≤ length words → length words ≤ room → (IsSome o → length words < room) → length (queued o rest) ≤ room
length-queued room words rest None shorter fits has_room = omega arith
length-queued room words rest (Some word) shorter fits has_room =
    let below : length words < room = has_room refl in
    omega (arith, length-append rest (word ∷ []))
