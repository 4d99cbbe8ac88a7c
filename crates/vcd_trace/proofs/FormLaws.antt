-- What things add to a text, one by one.
use Rattle.std.proofs.Common.{◌≡◌, ℕ, ◌+◌, ◌-◌, ◌≤◌, true, false, List, [], ◌∷◌, ◌++◌, zero, suc, length, Option, Some, refl, sym, ap, ◌∙◌, append_assoc, append-nil, length-append, arith, subst}
use Rattle.std.specs.Prelude.{replicate}
use Rattle.std.proofs.lemmas.List.{length-replicate}
use Rattle.pio_edge.specs.Edge.{with_bytes, TakesPrefix}
use Rattle.pio_edge.proofs.PutLaws.{with_bytes-append, takes_prefix-append_r, takes_prefix-append_l}
use Rattle.sample_trace.specs.Told.{IsNext, last_of, held_to, told_at}
use Rattle.vcd_trace.specs.TextForm.{TextForm, later_text, opened_text, closing_text, whole_text, last_told, HasPut, added, ended}

-- what is shown again adds nothing
abbrev pub AddsNothing : {T : Type 0} → TextForm T → Type 0
AddsNothing {T} f = (clock : ℕ) (s : T) → f.later clock s s ≡ []

last_of-replicate : {T : Type 0} (n : ℕ) (s : T) → last_of s (replicate n s) ≡ s
last_of-replicate zero s = refl
last_of-replicate (suc n) s = last_of-replicate n s

last_of-repeat : {T : Type 0} (s : T) (xs : List T) (n : ℕ) → last_of s (xs ++ replicate n (last_of s xs)) ≡ last_of s xs
last_of-repeat s [] n = last_of-replicate n s
last_of-repeat s (t ∷ xs) n = last_of-repeat t xs n

last_of-push : {T : Type 0} (s : T) (xs : List T) (t : T) → last_of s (xs ++ t ∷ []) ≡ t
last_of-push s [] t = refl
last_of-push s (x ∷ xs) t = last_of-push x xs t

-- repeating the last one leaves it the last
pub last_told-held : {T : Type 0} (clock : ℕ) (l : List T) → last_told (held_to clock l) ≡ last_told l
last_told-held clock [] = refl
last_told-held clock (s ∷ rest) = ap Some (last_of-repeat s rest (clock - length (s ∷ rest)))

last_told-push : {T : Type 0} (l : List T) (t : T) → last_told (l ++ t ∷ []) ≡ Some t
last_told-push [] t = refl
last_told-push (s ∷ rest) t = ap Some (last_of-push s rest t)

-- those in two rows have the text of the one, then of the other
later_text-append : {T : Type 0} (f : TextForm T) (clock : ℕ) (before : T) (xs ys : List T) → later_text f clock before (xs ++ ys) ≡ later_text f clock before xs ++ later_text f (clock + length xs) (last_of before xs) ys
later_text-append f clock before [] ys = ap (λ n. later_text f n before ys) (let e : clock ≡ clock + 0 = omega arith in e)
later_text-append f clock before (x ∷ xs) ys =
    ap (λ t. f.later clock before x ++ t) (later_text-append f (clock + 1) x xs ys ∙ ap (λ n. later_text f (clock + 1) x xs ++ later_text f n (last_of x xs) ys) (let e : clock + 1 + length xs ≡ clock + suc (length xs) = omega arith in e))
    ∙ sym (append_assoc (f.later clock before x) (later_text f (clock + 1) x xs) (later_text f (clock + suc (length xs)) (last_of x xs) ys))

later_text-replicate : {T : Type 0} (f : TextForm T) → AddsNothing f → (clock n : ℕ) (s : T) → later_text f clock s (replicate n s) ≡ []
later_text-replicate f none clock zero s = refl
later_text-replicate f none clock (suc n) s = ap (λ t. t ++ later_text f (clock + 1) s (replicate n s)) (none clock s) ∙ later_text-replicate f none (clock + 1) n s

later_text-held : {T : Type 0} (f : TextForm T) → AddsNothing f → (s : T) (rest : List T) (n : ℕ) → later_text f 1 s (rest ++ replicate n (last_of s rest)) ≡ later_text f 1 s rest
later_text-held f none s rest n =
    later_text-append f 1 s rest (replicate n (last_of s rest))
    ∙ ap (λ t. later_text f 1 s rest ++ t) (later_text-replicate f none (1 + length rest) n (last_of s rest)) ∙ append-nil (later_text f 1 s rest)

-- the clocks that were left out add nothing
pub opened_text-held : {T : Type 0} (f : TextForm T) → AddsNothing f → (clock : ℕ) (l : List T) → opened_text f (held_to clock l) ≡ opened_text f l
opened_text-held f none clock [] = refl
opened_text-held f none clock (s ∷ rest) = ap (λ t. f.head ++ f.first s ++ t) (later_text-held f none s rest (clock - length (s ∷ rest)))

length-held : {T : Type 0} (clock : ℕ) (s : T) (rest : List T) → length (s ∷ rest) ≤ clock → length (held_to clock (s ∷ rest)) ≡ clock
length-held clock s rest h = let n = clock - length (s ∷ rest) in omega (arith, length-append rest (replicate n (last_of s rest)), length-replicate n (last_of s rest))

opened_text-push : {T : Type 0} (f : TextForm T) (s : T) (rest : List T) (t : T) → opened_text f (s ∷ (rest ++ t ∷ [])) ≡ opened_text f (s ∷ rest) ++ f.later (1 + length rest) (last_of s rest) t
opened_text-push f s rest t =
    let front : List ℕ = f.head ++ f.first s in
    ap (λ x. front ++ x) (later_text-append f 1 s rest (t ∷ []) ∙ ap (λ x. later_text f 1 s rest ++ x) (append-nil (f.later (1 + length rest) (last_of s rest) t)))
    ∙ sym (append_assoc front (later_text f 1 s rest) (f.later (1 + length rest) (last_of s rest) t))

-- more only add to the text
opened_text-append : {T : Type 0} (f : TextForm T) (l more : List T) → (rest : List ℕ) × (opened_text f (l ++ more) ≡ opened_text f l ++ rest)
opened_text-append f [] [] = ([], sym (append-nil f.head))
opened_text-append f [] (s ∷ more) = (f.first s ++ later_text f 1 s more, append_assoc f.head (f.first s) (later_text f 1 s more))
opened_text-append f (s ∷ rest) more =
    let front : List ℕ = f.head ++ f.first s in
    let later : List ℕ = later_text f (1 + length rest) (last_of s rest) more in
    (later, ap (λ x. front ++ x) (later_text-append f 1 s rest more) ∙ sym (append_assoc front (later_text f 1 s rest) later))

-- a first part of the text of some is one of the whole text of these and more
pub early_part : {T : Type 0} (f : TextForm T) (b now : Option (List ℕ)) (l more : List T) → TakesPrefix b (opened_text f l) now → TakesPrefix b (whole_text f (l ++ more)) now
early_part f b now l more h =
    let t = opened_text-append f l more in
    let closing : List ℕ = closing_text f (l ++ more) in
    let whole : whole_text f (l ++ more) ≡ opened_text f l ++ (t.0 ++ closing) = ap (λ x. x ++ closing) t.1 ∙ append_assoc (opened_text f l) t.0 closing in
    let P : List ℕ → Type 0 = λ w. TakesPrefix b w now in
    subst P (sym whole) (takes_prefix-append_l b now (opened_text f l) (t.0 ++ closing) h)

-- one adds its own part to the text
pub opened_text-told : {T : Type 0} (f : TextForm T) → AddsNothing f → (clock : ℕ) (t : T) (l : List T) → IsNext l clock → opened_text f (told_at clock t l) ≡ opened_text f l ++ added f clock (last_told l) t
opened_text-told f none clock t [] h = append-nil (f.head ++ f.first t)
opened_text-told {T} f none clock t (s ∷ rest) h =
    let more : List T = replicate (clock - length (s ∷ rest)) (last_of s rest) in
    opened_text-push f s (rest ++ more) t
    ∙ ap (λ x. x ++ f.later (1 + length (rest ++ more)) (last_of s (rest ++ more)) t) (opened_text-held f none clock (s ∷ rest))
    ∙ ap (λ c. opened_text f (s ∷ rest) ++ f.later c (last_of s (rest ++ more)) t) (let e : 1 + length (rest ++ more) ≡ clock = omega (arith, length-held clock s rest h.after) in e)
    ∙ ap (λ x. opened_text f (s ∷ rest) ++ f.later clock x t) (last_of-repeat s rest (clock - length (s ∷ rest)))

-- the end adds what closes the text, where something was shown
pub whole_text-held : {T : Type 0} (f : TextForm T) → AddsNothing f → (clock : ℕ) (l : List T) → IsNext l clock → whole_text f (held_to clock l) ≡ opened_text f l ++ ended f clock (last_told l)
whole_text-held f none clock [] h = refl
whole_text-held f none clock (s ∷ rest) h =
    ap (λ x. x ++ closing_text f (held_to clock (s ∷ rest))) (opened_text-held f none clock (s ∷ rest))
    ∙ ap (λ c. opened_text f (s ∷ rest) ++ f.closing c) (length-held clock s rest h.after)

-- the whole text ends with what closes it in the clock after the last one
pub whole_text-ends : {T : Type 0} (f : TextForm T) (l : List T) → (l ≡ [] → ⊥) → whole_text f l ≡ opened_text f l ++ f.closing (length l)
whole_text-ends f [] some = absurd (some refl)
whole_text-ends f (s ∷ rest) some = refl

-- bytes after a text that was taken
taken_more : (b taken taken' : Option (List ℕ)) (text more whole : List ℕ) → taken ≡ with_bytes b text → taken' ≡ with_bytes taken more → whole ≡ text ++ more → taken' ≡ with_bytes b whole
taken_more b taken taken' text more whole h k e = k ∙ ap (λ x. with_bytes x more) h ∙ with_bytes-append b text more ∙ ap (with_bytes b) (sym e)

pub broken_more : (b taken taken' : Option (List ℕ)) (text more whole : List ℕ) → taken ≡ with_bytes b text → TakesPrefix taken more taken' → whole ≡ text ++ more → TakesPrefix b whole taken'
broken_more b taken taken' text more whole h k e = let P : List ℕ → Type 0 = λ w. TakesPrefix b w taken' in subst P (sym e) (takes_prefix-append_r b taken taken' text more h k)

pub one_put : {T : Type 0} (f : TextForm T) → AddsNothing f → (b : Option (List ℕ)) (l : List T) (taken : Option (List ℕ)) (last : Option T) (clock : ℕ) (t : T) (taken' : Option (List ℕ)) (last' : Option T)
    → HasPut f b l false taken last → IsNext l clock → taken' ≡ with_bytes taken (added f clock last t) → last' ≡ Some t → HasPut f b (told_at clock t l) false taken' last'
one_put f none b l taken last clock t taken' last' h n k kept = record {
  text = taken_more b taken taken' (opened_text f l) (added f clock (last_told l) t) (opened_text f (told_at clock t l)) h.text
      (k ∙ ap (λ x. with_bytes taken (added f clock x t)) h.remembered) (opened_text-told f none clock t l n);
  remembered = kept ∙ sym (last_told-push (held_to clock l) t);
}

pub one_breaks : {T : Type 0} (f : TextForm T) → AddsNothing f → (b : Option (List ℕ)) (l : List T) (taken : Option (List ℕ)) (last : Option T) (clock : ℕ) (t : T) (taken' : Option (List ℕ)) → HasPut f b l false taken last → IsNext l clock → TakesPrefix taken (added f clock last t) taken' → TakesPrefix b (opened_text f (told_at clock t l)) taken'
one_breaks f none b l taken last clock t taken' h n k =
    broken_more b taken taken' (opened_text f l) (added f clock last t) (opened_text f (told_at clock t l)) h.text k
    (opened_text-told f none clock t l n ∙ ap (λ x. opened_text f l ++ added f clock x t) (sym h.remembered))

pub end_put : {T : Type 0} (f : TextForm T) → AddsNothing f → (b : Option (List ℕ)) (l : List T) (taken : Option (List ℕ)) (last : Option T) (clock : ℕ) (taken' : Option (List ℕ)) → HasPut f b l false taken last → IsNext l clock → taken' ≡ with_bytes taken (ended f clock last) → HasPut f b (held_to clock l) true taken' last
end_put f none b l taken last clock taken' h n k = record {
  text = taken_more b taken taken' (opened_text f l) (ended f clock (last_told l)) (whole_text f (held_to clock l)) h.text
      (k ∙ ap (λ x. with_bytes taken (ended f clock x)) h.remembered) (whole_text-held f none clock l n);
  remembered = h.remembered ∙ sym (last_told-held clock l);
}

pub end_breaks : {T : Type 0} (f : TextForm T) → AddsNothing f → (b : Option (List ℕ)) (l : List T) (taken : Option (List ℕ)) (last : Option T) (clock : ℕ) (taken' : Option (List ℕ)) → HasPut f b l false taken last → IsNext l clock → TakesPrefix taken (ended f clock last) taken' → TakesPrefix b (whole_text f (held_to clock l)) taken'
end_breaks f none b l taken last clock taken' h n k =
    broken_more b taken taken' (opened_text f l) (ended f clock last) (whole_text f (held_to clock l)) h.text k
    (whole_text-held f none clock l n ∙ ap (λ x. opened_text f l ++ ended f clock x) (sym h.remembered))
