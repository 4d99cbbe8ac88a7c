-- Puts one after the other: what a sink has taken after some of them, also where one of them fails.
use Rattle.std.proofs.Common.{◌≡◌, ℕ, ◌+◌, ◌≤◌, Option, Some, None, List, [], ◌++◌, length, take, Result, Ok, Err, IsErr, refl, sym, ap, subst, flat_map, drop, get_or, ◌<◌, add-one, ◌∙◌, append_assoc, append-nil, length-append, arith}
use Rattle.std.proofs.Math.Seq.{take-append-add, drop-cons}
use Rattle.std.proofs.lemmas.List.{take-append-le}
use Rattle.pio_edge.specs.Edge.{with_bytes, TakesPrefix, Takes}
use Rattle.pio_edge.specs.Puts.{Going}

-- two rows of bytes, one after the other, are their join
pub with_bytes-append : (o : Option (List ℕ)) (a b : List ℕ) → with_bytes (with_bytes o a) b ≡ with_bytes o (a ++ b)
with_bytes-append None a b = refl
with_bytes-append (Some t) a b = ap Some (append_assoc t a b)

-- no bytes change nothing
pub with_bytes-nil : (o : Option (List ℕ)) → with_bytes o [] ≡ o
with_bytes-nil None = refl
with_bytes-nil (Some t) = ap Some (append-nil t)

-- a first part of a, put after what was taken, is one of a ++ b
pub takes_prefix-append_l : (o m : Option (List ℕ)) (a b : List ℕ) → TakesPrefix o a m → TakesPrefix o (a ++ b) m
takes_prefix-append_l o m a b p =
    let within : p.count ≤ length a = p.within in
    record {
      count = p.count;
      within = omega (arith, length-append a b);
      taken = p.taken ∙ ap (with_bytes o) (sym (take-append-le p.count a b within));
    }

-- after all of a, a first part of b is one of a ++ b
pub takes_prefix-append_r : (o m n : Option (List ℕ)) (a b : List ℕ) → m ≡ with_bytes o a → TakesPrefix m b n → TakesPrefix o (a ++ b) n
takes_prefix-append_r o m n a b e p =
    let within : p.count ≤ length b = p.within in
    record {
      count = length a + p.count;
      within = omega (arith, length-append a b);
      taken = p.taken ∙ ap (λ x. with_bytes x (take p.count b)) e ∙ with_bytes-append o a (take p.count b) ∙ ap (with_bytes o) (sym (take-append-add a b p.count));
    }

-- a put of b goes on where a was taken: the two are a put of a ++ b
pub takes_on : {T E : Type 0} (o m n : Option (List ℕ)) (a b : List ℕ) (r : Result T E) → m ≡ with_bytes o a → Takes m b n r → Takes o (a ++ b) n r
takes_on o m n a b (Ok x) e h = h ∙ ap (λ w. with_bytes w b) e ∙ with_bytes-append o a b
takes_on o m n a b (Err x) e h = takes_prefix-append_r o m n a b e h

-- a put of a fails, so that nothing of b is put: that is a failed put of a ++ b
pub takes_off : {T E : Type 0} (o m : Option (List ℕ)) (a b : List ℕ) (r : Result T E) → IsErr r → TakesPrefix o a m → Takes o (a ++ b) m r
takes_off o m a b (Ok x) f h = cc
takes_off o m a b (Err x) f h = takes_prefix-append_l o m a b h

-- before the first put the whole text is left
pub going_begins : (o : Option (List ℕ)) (whole : List ℕ) → Going o o whole whole
going_begins o whole = record { done = []; taken = sym (with_bytes-nil o); all = refl }

-- a line at the front of the rest was taken
pub going_on : (o m n : Option (List ℕ)) (whole rest line later : List ℕ) → Going o m whole rest → rest ≡ line ++ later → n ≡ with_bytes m line → Going o n whole later
going_on o m n whole rest line later g e h = record {
  done = g.done ++ line;
  taken = h ∙ ap (λ w. with_bytes w line) g.taken ∙ with_bytes-append o g.done line;
  all = append_assoc g.done line later ∙ ap (λ x. g.done ++ x) (sym e) ∙ g.all;
}

-- only a first part of that line was taken, so a first part of the whole text was
pub going_stops : (o m n : Option (List ℕ)) (whole rest line later : List ℕ) → Going o m whole rest → rest ≡ line ++ later → TakesPrefix m line n → TakesPrefix o whole n
going_stops o m n whole rest line later g e p =
    let h : TakesPrefix o (g.done ++ (line ++ later)) n = takes_prefix-append_r o m n g.done (line ++ later) g.taken (takes_prefix-append_l m n line later p) in
    let all : g.done ++ (line ++ later) ≡ whole = ap (λ x. g.done ++ x) (sym e) ∙ g.all in
    subst (λ (w : List ℕ). TakesPrefix o w n) all h

-- nothing is left, so the whole text was taken
pub going_ends : (o m : Option (List ℕ)) (whole : List ℕ) → Going o m whole [] → m ≡ with_bytes o whole
going_ends o m whole g = g.taken ∙ ap (with_bytes o) (sym (append-nil g.done) ∙ g.all)

-- where the line at the front of the rest failed, the whole text failed
pub takes_failed : {T E : Type 0} (o m n : Option (List ℕ)) (whole rest line later : List ℕ) (r : Result T E) → Going o m whole rest → rest ≡ line ++ later → IsErr r → TakesPrefix m line n → Takes o whole n r
takes_failed o m n whole rest line later (Ok x) g e f p = cc
takes_failed o m n whole rest line later (Err x) g e f p = going_stops o m n whole rest line later g e p

-- the put of all that is left ends the whole text, or fails in it
pub takes_last : {T E : Type 0} (o m n : Option (List ℕ)) (whole rest : List ℕ) (r : Result T E) → Going o m whole rest → Takes m rest n r → Takes o whole n r
takes_last o m n whole rest (Ok x) g h = going_ends o n whole (going_on o m n whole rest rest [] g (sym (append-nil rest)) h)
takes_last o m n whole rest (Err x) g p = going_stops o m n whole rest rest [] g (sym (append-nil rest)) p

-- the pieces from one on are this piece and those after it
pub flat_map-drop : {A : Type 0} (f : A → List ℕ) (xs : List A) (i : ℕ) (d : A) → i < length xs → flat_map f (drop i xs) ≡ f (get_or xs i d) ++ flat_map f (drop (i + 1) xs)
flat_map-drop f xs i d h = rw (add-one, drop-cons xs i d)
