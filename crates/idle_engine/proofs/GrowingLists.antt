-- Lists that grow by an element a clock, as a trace is told of them.
use Rattle.std.proofs.Common.{◌≡◌, ℕ, zero, suc, ◌+◌, ◌-◌, ◌<◌, ◌≤◌, List, [], ◌∷◌, ◌++◌, length, refl, ap, ◌∙◌, sym, arith, append-nil, append_assoc, length-append, add-zero, add-suc, add-one}
use Rattle.std.specs.Prelude.{replicate}
use Rattle.std.proofs.lemmas.List.{replicate-append-replicate}
use Rattle.sample_trace.specs.Told.{IsNext, held_to, last_of, told_at}
use Rattle.idle_engine.specs.Kinds.{AreFirsts}

-- one a clock
pub length-firsts : {T : Type 0} (at : ℕ → T) (all : ℕ → List T) → AreFirsts at all → (n : ℕ) → length (all n) ≡ n
length-firsts at all h zero = ap length h.none
length-firsts at all h (suc n) =
    let before = length-firsts at all h n in
    let e = ap length (h.more n) in
    omega (arith, length-append (all n) (at n ∷ []), e)

-- those of more clocks begin with those of fewer
pub firsts-from : {T : Type 0} (at : ℕ → T) (all : ℕ → List T) → AreFirsts at all → (n more : ℕ)
    → (later : List T) × (all (n + more) ≡ all n ++ later)
firsts-from at all h n zero = ([], ap all (add-zero n) ∙ sym (append-nil (all n)))
firsts-from at all h n (suc more) =
    let before = firsts-from at all h n more in
    let next = at (n + more) ∷ [] in (
      before.0 ++ next,
      ap all (add-suc n more) ∙ h.more (n + more) ∙ ap (λ l. l ++ next) before.1 ∙ append_assoc (all n) before.0 next,
    )

-- the last of a list that ends so
last_of-append : {T : Type 0} (x s : T) (l : List T) → last_of s (l ++ x ∷ []) ≡ x
last_of-append x s [] = refl
last_of-append x s (t ∷ rest) = last_of-append x t rest

-- a list is held to a later clock by its last element
held_to-later : {T : Type 0} (l : List T) (x : T) (c n : ℕ) → length (l ++ x ∷ []) ≡ c
    → held_to (c + n) (l ++ x ∷ []) ≡ (l ++ x ∷ []) ++ replicate n x
held_to-later [] x c n e =
    let left : c + n - 1 ≡ n = omega arith in
    ap (λ (k : ℕ). (x ∷ []) ++ replicate k x) left
held_to-later (s ∷ l) x c n e =
    let left : c + n - length (s ∷ l ++ x ∷ []) ≡ n = omega arith in
    ap (λ (k : ℕ). (s ∷ l ++ x ∷ []) ++ replicate k (last_of s (l ++ x ∷ []))) left
    ∙ ap (λ y. (s ∷ l ++ x ∷ []) ++ replicate n y) (last_of-append x s l)

-- one more at the end
one-more : {T : Type 0} (n : ℕ) (x : T) → replicate n x ++ x ∷ [] ≡ replicate (suc n) x
one-more n x = replicate-append-replicate n 1 x ∙ ap (λ (k : ℕ). replicate k x) (add-one n)

-- more clocks with the same
firsts-same : {T : Type 0} (at : ℕ → T) (all : ℕ → List T) → AreFirsts at all → (c n : ℕ) (x : T)
    → ((k : ℕ) → k < n → at (c + k) ≡ x) → all (c + n) ≡ all c ++ replicate n x
firsts-same at all h c zero x same = ap all (add-zero c) ∙ sym (append-nil (all c))
firsts-same at all h c (suc n) x same =
    let before = firsts-same at all h c n x (λ k below. same k (omega arith)) in
    ap all (add-suc c n)
    ∙ h.more (c + n)
    ∙ ap (λ s. all (c + n) ++ s ∷ []) (same n (omega arith))
    ∙ ap (λ l. l ++ x ∷ []) before
    ∙ append_assoc (all c) (replicate n x) (x ∷ [])
    ∙ ap (λ l. all c ++ l) (one-more n x)

-- a trace told up to a clock after which some show the same
pub firsts-held : {T : Type 0} (at : ℕ → T) (all : ℕ → List T) → AreFirsts at all → (b n : ℕ)
    → ((k : ℕ) → k < n → at (b + 1 + k) ≡ at b) → held_to (b + 1 + n) (all (b + 1)) ≡ all (b + 1 + n)
firsts-held at all h b n same =
    let x = at b in
    let l = all b in
    let own : all (b + 1) ≡ l ++ x ∷ [] = ap all (add-one b) ∙ h.more b in
    let long : length (l ++ x ∷ []) ≡ b + 1 = let e = length-firsts at all h b in omega (arith, length-append l (x ∷ [])) in
    ap (held_to (b + 1 + n)) own
    ∙ held_to-later l x (b + 1) n long
    ∙ ap (λ k. k ++ replicate n x) (sym own)
    ∙ sym (firsts-same at all h (b + 1) n x same)

-- such a trace is told of the clock next
pub firsts-next : {T : Type 0} (at : ℕ → T) (all : ℕ → List T) → AreFirsts at all → (last clock : ℕ) → last ≤ clock
    → (last ≡ 0 → clock ≡ 0) → IsNext (all last) clock
firsts-next at all h last clock le first =
    let e = length-firsts at all h last in
    record { after = omega arith; first = λ none. first (omega arith) }

-- and then has those up to it
pub firsts-told : {T : Type 0} (at : ℕ → T) (all : ℕ → List T) → AreFirsts at all → (last clock : ℕ) (s : T)
    → held_to clock (all last) ≡ all clock → s ≡ at clock → told_at clock s (all last) ≡ all (clock + 1)
firsts-told at all h last clock s held e =
    ap (λ l. l ++ s ∷ []) held
    ∙ ap (λ x. all clock ++ x ∷ []) e
    ∙ sym (ap all (add-one clock) ∙ h.more clock)
