-- Laws of the lines of values and changes.
use Rattle.std.proofs.Common.{◌≡◌, ℕ, ◌+◌, ◌-◌, ◌/◌, ◌%◌, ◌<◌, false, cond, eqb, List, [], ◌∷◌, ◌++◌, suc, length, drop, get_or, Result, IsErr, add-one, refl, sym, ap, ◌∙◌, append_assoc, append-nil, arith, eq-eqb, subst}
use borrow.Author.Tests.{ne_eqb}
use Rattle.std.proofs.Common.{Option}
use Rattle.pio_edge.specs.Edge.{with_bytes, TakesPrefix, Takes}
use Rattle.pio_edge.specs.Puts.{Going}
use Rattle.pio_edge.proofs.PutLaws.{going_on, takes_failed, going_ends}
use Rattle.std.specs.Prelude.{replicate}
use Rattle.std.proofs.Math.Seq.{drop-cons}
use Rattle.block_core.specs.Sample.{bits_of}
use Rattle.std.specs.Fmt.{digits}
use Rattle.vcd_trace.specs.VcdText.{identifier, value_line, bit_line, vector_line, value_lines, change_lines}
use Rattle.vcd_trace.specs.Groups.{bit_lines, bit_changes, vector_lines, vector_changes}

-- a value that stays has no line
pub no_line : (a b : ℕ) (line : List ℕ) → a ≡ b → cond (eqb a b) [] line ≡ []
no_line a b line e = ap (λ t. cond t [] line) (eq-eqb a b e)

-- a value that changes has its line
pub one_line : (a b : ℕ) (line : List ℕ) → (a ≡ b → ⊥) → cond (eqb a b) [] line ≡ line
one_line a b line e = ap (λ t. cond t [] line) (ne_eqb a b e)

-- values that stay as they were have no lines
pub change_lines-same : (id : ℕ) (ws vs : List ℕ) → change_lines id ws vs vs ≡ []
change_lines-same id [] vs = refl
change_lines-same id (w ∷ ws) [] = refl
change_lines-same id (w ∷ ws) (v ∷ vs) = ap (λ x. x ++ change_lines (id + 1) ws vs vs) (no_line v v (value_line w id v) refl) ∙ change_lines-same (id + 1) ws vs

id_on : (id n : ℕ) → id + 1 + n ≡ id + suc n
id_on id n = omega arith

-- two groups of values have the lines of the one and then of the other
pub change_lines-append : (id : ℕ) (ws ws' a a' b b' : List ℕ) → length a ≡ length ws → length b ≡ length ws → change_lines id (ws ++ ws') (a ++ a') (b ++ b') ≡ change_lines id ws a b ++ change_lines (id + length ws) ws' a' b'
change_lines-append id [] ws' [] a' [] b' e f = ap (λ i. change_lines i ws' a' b') (let same : id ≡ id + 0 = omega arith in same)
change_lines-append id [] ws' (x ∷ a) a' b b' e f = absurd (omega arith)
change_lines-append id [] ws' [] a' (y ∷ b) b' e f = absurd (omega arith)
change_lines-append id (w ∷ ws) ws' [] a' b b' e f = absurd (omega arith)
change_lines-append id (w ∷ ws) ws' (x ∷ a) a' [] b' e f = absurd (omega arith)
change_lines-append id (w ∷ ws) ws' (x ∷ a) a' (y ∷ b) b' e f =
    let line : List ℕ = cond (eqb x y) [] (value_line w id y) in
    ap (λ t. line ++ t) (change_lines-append (id + 1) ws ws' a a' b b' (omega arith) (omega arith) ∙ ap (λ i. change_lines (id + 1) ws a b ++ change_lines i ws' a' b') (id_on id (length ws)))
    ∙ sym (append_assoc line (change_lines (id + 1) ws a b) (change_lines (id + suc (length ws)) ws' a' b'))

-- the same for all values
pub value_lines-append : (id : ℕ) (ws ws' b b' : List ℕ) → length b ≡ length ws → value_lines id (ws ++ ws') (b ++ b') ≡ value_lines id ws b ++ value_lines (id + length ws) ws' b'
value_lines-append id [] ws' [] b' f = ap (λ i. value_lines i ws' b') (let same : id ≡ id + 0 = omega arith in same)
value_lines-append id [] ws' (y ∷ b) b' f = absurd (omega arith)
value_lines-append id (w ∷ ws) ws' [] b' f = absurd (omega arith)
value_lines-append id (w ∷ ws) ws' (y ∷ b) b' f =
    let line : List ℕ = value_line w id y in
    ap (λ t. line ++ t) (value_lines-append (id + 1) ws ws' b b' (omega arith) ∙ ap (λ i. value_lines (id + 1) ws b ++ value_lines i ws' b') (id_on id (length ws)))
    ∙ sym (append_assoc line (value_lines (id + 1) ws b) (value_lines (id + suc (length ws)) ws' b'))

-- the bits of a number that stays have no lines
pub bit_changes-same : (id count now : ℕ) → bit_changes id count now now ≡ []
unfolding bit_changes
bit_changes-same id count now = change_lines-same id (replicate count 1) (bits_of count now)

-- bit 0, then the bits of the halves
pub bit_changes-step : (id more before now : ℕ) → bit_changes id (suc more) before now ≡ cond (eqb (before % 2) (now % 2)) [] (bit_line id (now % 2)) ++ bit_changes (id + 1) more (before / 2) (now / 2)
unfolding bit_changes bits_of
bit_changes-step id more before now = refl

-- the elements from a place on are the one there and those after it
pub drop_at : {T : Type 0} (xs : List T) (i : ℕ) (d : T) → i < length xs → drop i xs ≡ get_or xs i d ∷ drop (i + 1) xs
drop_at xs i d h = rw (add-one, drop-cons xs i d)

-- the values at a place, then those after it
pub vector_changes-step : (id i : ℕ) (before now : List ℕ) → i < length before → i < length now → vector_changes id (drop i before) (drop i now) ≡ cond (eqb (get_or before i 0) (get_or now i 0)) [] (vector_line id (get_or now i 0)) ++ vector_changes (id + 1) (drop (i + 1) before) (drop (i + 1) now)
vector_changes-step id i before now h k =
    ap (λ t. vector_changes id t (drop i now)) (drop_at before i 0 h) ∙ ap (vector_changes id (get_or before i 0 ∷ drop (i + 1) before)) (drop_at now i 0 k)

-- the values from one on: its line where it changes, then those after it
pub vector_changes-turn : (first i : ℕ) (before now : List ℕ) → i < length before → i < length now → vector_changes (first + i) (drop i before) (drop i now) ≡ cond (eqb (get_or before i 0) (get_or now i 0)) [] (vector_line (first + i) (get_or now i 0)) ++ vector_changes (first + (i + 1)) (drop (i + 1) before) (drop (i + 1) now)
vector_changes-turn first i before now h k =
    vector_changes-step (first + i) i before now h k
    ∙ ap (λ j. cond (eqb (get_or before i 0) (get_or now i 0)) [] (vector_line (first + i) (get_or now i 0)) ++ vector_changes j (drop (i + 1) before) (drop (i + 1) now)) (let e : first + i + 1 ≡ first + (i + 1) = omega arith in e)

pub bit_lines-none : (id now : ℕ) → bit_lines id 0 now ≡ []
unfolding bit_lines
bit_lines-none id now = refl

bit_lines-step : (id more now : ℕ) → bit_lines id (suc more) now ≡ bit_line id (now % 2) ++ bit_lines (id + 1) more (now / 2)
unfolding bit_lines bits_of
bit_lines-step id more now = refl

-- the bits from one on: its line, then those after it
pub bit_lines-turn : (first count step now : ℕ) → step < count → bit_lines (first + step) (count - step) now ≡ bit_line (first + step) (now % 2) ++ bit_lines (first + (step + 1)) (count - (step + 1)) (now / 2)
bit_lines-turn first count step now h =
    ap (λ k. bit_lines (first + step) k now) (let e : count - step ≡ suc (count - (step + 1)) = omega arith in e)
    ∙ bit_lines-step (first + step) (count - (step + 1)) now
    ∙ ap (λ i. bit_line (first + step) (now % 2) ++ bit_lines i (count - (step + 1)) (now / 2)) (let e : first + step + 1 ≡ first + (step + 1) = omega arith in e)

-- the values from one on: its line, then those after it
pub vector_lines-turn : (first i : ℕ) (now : List ℕ) → i < length now → vector_lines (first + i) (drop i now) ≡ vector_line (first + i) (get_or now i 0) ++ vector_lines (first + (i + 1)) (drop (i + 1) now)
vector_lines-turn first i now k =
    ap (vector_lines (first + i)) (drop_at now i 0 k)
    ∙ ap (λ j. vector_line (first + i) (get_or now i 0) ++ vector_lines j (drop (i + 1) now)) (let e : first + i + 1 ≡ first + (i + 1) = omega arith in e)

-- nothing is left of the rest, so the whole text was taken
pub going_done : (o m : Option (List ℕ)) (whole rest : List ℕ) → Going o m whole rest → rest ≡ [] → m ≡ with_bytes o whole
going_done o m whole rest g e = going_ends o m whole (let P : List ℕ → Type 0 = λ r. Going o m whole r in subst P e g)

-- the line of a value of more bits, before what follows it
pub vector_line-onto : (id value : ℕ) (rest : List ℕ) → 98 ∷ (digits 2 false value ++ 32 ∷ (identifier id ++ 10 ∷ rest)) ≡ vector_line id value ++ rest
vector_line-onto id value rest =
    ap (λ (l : List ℕ). 98 ∷ (digits 2 false value ++ 32 ∷ l)) (sym (append_assoc (identifier id) (10 ∷ []) rest))
    ∙ ap (λ (l : List ℕ). 98 ∷ l) (sym (append_assoc (digits 2 false value) (32 ∷ (identifier id ++ 10 ∷ [])) rest))

-- the last put took all that was left
pub going_done_last : (o m n : Option (List ℕ)) (whole rest : List ℕ) → Going o m whole rest → n ≡ with_bytes m rest → n ≡ with_bytes o whole
going_done_last o m n whole rest g e = going_ends o n whole (going_on o m n whole rest rest [] g (sym (append-nil rest)) e)

-- the last put failed
pub going_failed_last : {T E : Type 0} (o m n : Option (List ℕ)) (whole rest : List ℕ) (r : Result T E) → Going o m whole rest → IsErr r → TakesPrefix m rest n → Takes o whole n r
going_failed_last o m n whole rest r g f p = takes_failed o m n whole rest rest [] r g (sym (append-nil rest)) f p
