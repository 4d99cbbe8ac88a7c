-- One meter and one clock: what a to-edge ends, and what a from-edge opens.
use Rattle.std.proofs.Common.{◌≡◌, ℕ, zero, suc, ◌+◌, ◌-◌, ◌<◌, ◌≤◌, Bool, true, false, cond, eqb, List, [], ◌∷◌, ◌++◌, Option, Some, None, length, min, max, refl, sym, ap, ◌∙◌, map, subst, arith, append-nil, append_assoc, length-append}
use Rattle.std.proofs.lemmas.List.{length-map, map-append}
use Rattle.std.proofs.lemmas.Bool.Decides.{nat_tests}
use Rattle.std.specs.Option.{option_map}
use Rattle.span_meter.specs.declared.meter.Meter.{Meter}
use Rattle.span_meter.specs.declared.seen.SeenDistances.{SeenDistances}
use Rattle.span_meter.specs.Measured.{greatest_of, least_of, least_with, with_distance}
use Rattle.span_meter.specs.Meters.{IsCountOf, closed_at, closing, ended, most, opened_at}
use Rattle.span_meter.proofs.Distances.{greatest-append, least-append}

-- the same, one clock later
pub later : (ds starts : List ℕ) (n : ℕ) (m : Meter) → IsCountOf ds starts n m → IsCountOf ds starts (suc n) m
later ds starts n m h = record {
  seen = h.seen;
  begun = h.begun;
  first = h.first;
  last = λ some. let l = h.last some in omega arith;
  greatest = h.greatest;
  least = h.least;
}

same_seen : (a b : SeenDistances) → a.pairs ≡ b.pairs → a.least ≡ b.least → a.most ≡ b.most → a.assumed ≡ b.assumed → a ≡ b
same_seen a b p l m e =
    let mk : ℕ → ℕ → ℕ → Option ℕ → SeenDistances = λ x y z w. record { pairs = x; least = y; most = z; assumed = w } in
    ap (λ x. mk x a.least a.most a.assumed) p ∙ ap (λ x. mk b.pairs x a.most a.assumed) l ∙ ap (λ x. mk b.pairs b.least x a.assumed) m ∙ ap (mk b.pairs b.least b.most) e

not_zero : (o : ℕ) → 0 < o → eqb o 0 ≡ false
not_zero o h = grind (arith, nat_tests)

least_after : (ds : List ℕ) (p l d x : ℕ) (xs : List ℕ) → p ≡ length ds → l ≡ least_of ds → d ≡ least_with x xs → cond (eqb p 0) d (min l d) ≡ least_of (ds ++ x ∷ xs)
least_after [] p l d x xs hp hl hd = ap (λ q. cond (eqb q 0) d (min l d)) hp ∙ hd
least_after (y ∷ ys) p l d x xs hp hl hd =
    ap (λ q. cond (eqb q 0) d (min l d)) hp ∙ ap (λ b. cond b d (min l d)) (not_zero (length (y ∷ ys)) (omega arith)) ∙ ap (λ q. min q d) hl ∙ ap (min (least_with y ys)) hd ∙ sym (least-append y ys x xs)

none_open : (o : ℕ) (x y : Meter) → o ≡ 0 → x ≡ cond (eqb o 0) x y
none_open o x y h = ap (λ k. cond (eqb k 0) x y) (sym h)

some_open : (o : ℕ) (x y : Meter) → 0 < o → y ≡ cond (eqb o 0) x y
some_open o x y h = ap (λ b. cond b x y) (sym (not_zero o h))

sum_of : (p o a b all m : ℕ) → p ≡ a → o ≡ min b m → all ≡ a + b → all ≤ m → min (p + o) m ≡ all
sum_of p o a b all m e f g h = omega arith

all_of : (ds starts : List ℕ) (f : ℕ → ℕ) → length (ds ++ map f starts) ≡ length ds + length starts
all_of ds starts f = length-append ds (map f starts) ∙ ap (λ k. length ds + k) (length-map starts f)

-- a to-edge in clock n ends the pairs that are open
closes_some : (ds : List ℕ) (s : ℕ) (ss : List ℕ) (n : ℕ) (m : Meter) → IsCountOf ds (s ∷ ss) n m → length (ds ++ map (λ x. n + 0 - x) (s ∷ ss)) ≤ most → IsCountOf (ds ++ map (λ x. n + 0 - x) (s ∷ ss)) [] n (closing n m)
closes_some ds s ss n m h few =
    let f : ℕ → ℕ = λ x. n + 0 - x in
    let flat : n + 0 ≡ n = omega arith in
    let some : 0 < length (s ∷ ss) = omega arith in
    let least : n - m.last ≡ least_of (map f (s ∷ ss)) = ap (λ k. k - m.last) (sym flat) ∙ sym (h.least (n + 0) some) in
    let greatest : n - m.first ≡ greatest_of (map f (s ∷ ss)) = ap (λ k. k - m.first) (sym flat) ∙ sym (h.greatest (n + 0) some) in
    let pairs : m.pairs ≡ length ds = ap (λ (x : SeenDistances). x.pairs) h.seen in
    let low : m.least ≡ least_of ds = ap (λ (x : SeenDistances). x.least) h.seen in
    let high : m.most ≡ greatest_of ds = ap (λ (x : SeenDistances). x.most) h.seen in
    record {
      seen = same_seen _ _ (sum_of m.pairs m.begun (length ds) (length (s ∷ ss)) (length (ds ++ map f (s ∷ ss))) most pairs h.begun (all_of ds (s ∷ ss) f) few)
          (least_after ds m.pairs m.least (n - m.last) (f s) (map f ss) pairs low least)
          (ap (λ k. max k (n - m.first)) high ∙ ap (max (greatest_of ds)) greatest ∙ sym (greatest-append ds (map f (s ∷ ss))))
          refl;
      begun = omega arith;
      first = λ none. absurd (omega arith);
      last = λ none. absurd (omega arith);
      greatest = λ e none. absurd (omega arith);
      least = λ e none. absurd (omega arith);
    }

positive : (o a m : ℕ) → o ≡ min (suc a) m → 0 < m → 0 < o
positive o a m e h = omega arith

pub closes : (ds starts : List ℕ) (n : ℕ) (m : Meter) → IsCountOf ds starts n m → length (ds ++ map (λ s. n + 0 - s) starts) ≤ most → IsCountOf (ds ++ map (λ s. n + 0 - s) starts) [] n (closed_at n m)
unfolding closed_at
closes ds [] n m h few =
    let same = none_open m.begun m (closing n m) (let o = h.begun in omega arith) in
    subst (λ (x : Meter). IsCountOf (ds ++ []) [] n x) same (subst (λ (xs : List ℕ). IsCountOf xs [] n m) (sym (append-nil ds)) h)
closes ds (s ∷ ss) n m h few =
    let same = some_open m.begun m (closing n m) (positive m.begun (length ss) most h.begun (omega arith)) in
    subst (λ (x : Meter). IsCountOf (ds ++ map (λ x. n + 0 - x) (s ∷ ss)) [] n x) same (closes_some ds s ss n m h few)

map_push : (f : ℕ → ℕ) (xs : List ℕ) (x : ℕ) → map f (xs ++ x ∷ []) ≡ map f xs ++ f x ∷ []
map_push f xs x = map-append f xs (x ∷ [])

first_of : (starts : List ℕ) (o n first : ℕ) → o ≡ min (length starts) most → (0 < length starts → cond (eqb o 0) n first ≡ first) × (starts ≡ [] → cond (eqb o 0) n first ≡ n)
first_of [] o n first e = (λ some. absurd (omega arith), λ _. ap (λ k. cond (eqb k 0) n first) e)
first_of (s ∷ ss) zero n first e = absurd (omega arith)
first_of (s ∷ ss) (suc o) n first e = (λ _. ap (λ b. cond b n first) (not_zero (suc o) (omega arith)), λ none. cc)

greatest_more : (starts : List ℕ) (o e n first last : ℕ) → o ≡ min (length starts) most → (0 < length starts → first ≤ last) → (0 < length starts → last < n)
    → (0 < length starts → greatest_of (map (λ s. e - s) starts) ≡ e - first)
    → greatest_of (map (λ s. e - s) (starts ++ n ∷ [])) ≡ e - cond (eqb o 0) n first
greatest_more [] o e n first last ho h k g =
    let at : cond (eqb o 0) n first ≡ n = ap (λ k. cond (eqb k 0) n first) ho in
    omega arith
greatest_more (s ∷ ss) o e n first last ho h k g =
    let some : 0 < length (s ∷ ss) = omega arith in
    let at = (first_of (s ∷ ss) o n first ho).0 some in
    let a = h some in
    let b = k some in
    let c = g some in
    let f : ℕ → ℕ = λ x. e - x in
    let all : greatest_of (map f ((s ∷ ss) ++ n ∷ [])) ≡ max (greatest_of (map f (s ∷ ss))) (max (e - n) 0) = ap greatest_of (map_push f (s ∷ ss) n) ∙ greatest-append (map f (s ∷ ss)) (f n ∷ []) in
    all ∙ ap (λ k. max k (max (e - n) 0)) c ∙ (let t : max (e - first) (max (e - n) 0) ≡ e - first = omega arith in t) ∙ ap (λ k. e - k) (sym at)

least_more : (starts : List ℕ) (e n last : ℕ) → (0 < length starts → last < n) → (0 < length starts → least_of (map (λ s. e - s) starts) ≡ e - last)
    → least_of (map (λ s. e - s) (starts ++ n ∷ [])) ≡ e - n
least_more [] e n last k g = refl
least_more (s ∷ ss) e n last k g =
    let some : 0 < length (s ∷ ss) = omega arith in
    let b = k some in
    let c = g some in
    let f : ℕ → ℕ = λ x. e - x in
    let all : least_of (map f ((s ∷ ss) ++ n ∷ [])) ≡ min (least_of (map f (s ∷ ss))) (e - n) = ap least_of (map_push f (s ∷ ss) n) ∙ least-append (f s) (map f ss) (f n) [] in
    all ∙ ap (λ k. min k (e - n)) c ∙ (let t : min (e - last) (e - n) ≡ e - n = omega arith in t)

before_it : (starts : List ℕ) (o n first last : ℕ) → o ≡ min (length starts) most → (0 < length starts → first ≤ last) → (0 < length starts → last < n) → cond (eqb o 0) n first ≤ n
before_it [] o n first last ho h k = let at : cond (eqb o 0) n first ≡ n = ap (λ k. cond (eqb k 0) n first) ho in omega arith
before_it (s ∷ ss) o n first last ho h k =
    let some : 0 < length (s ∷ ss) = omega arith in
    let at = (first_of (s ∷ ss) o n first ho).0 some in
    let a = h some in
    let b = k some in
    omega arith

one_more : (o a b m : ℕ) → o ≡ min a m → b ≡ a + 1 → min (o + 1) m ≡ min b m
one_more o a b m e f = omega arith

-- a from-edge in clock n opens a pair
pub opens : (ds starts : List ℕ) (n : ℕ) (m : Meter) → IsCountOf ds starts n m → IsCountOf ds (starts ++ n ∷ []) (suc n) (opened_at n m)
unfolding opened_at
opens ds starts n m h = record {
  seen = h.seen;
  begun = one_more m.begun (length starts) (length (starts ++ n ∷ [])) most h.begun (length-append starts (n ∷ []));
  first = λ some. before_it starts m.begun n m.first m.last h.begun h.first h.last;
  last = λ some. omega arith;
  greatest = λ e some. greatest_more starts m.begun e n m.first m.last h.begun h.first h.last (h.greatest e);
  least = λ e some. least_more starts e n m.last h.last (h.least e);
}

-- The distances after one clock more, by whether its to-edge and its from-edge come.
abbrev pub starts_after : (to from : Bool) (n : ℕ) → List ℕ → List ℕ
starts_after true true n starts = n ∷ []
starts_after true false n starts = []
starts_after false true n starts = starts ++ n ∷ []
starts_after false false n starts = starts

pub ended-none : (n : ℕ) (c : Option ℕ) → ended n [] c ≡ []
ended-none n None = refl
ended-none n (Some k) = refl

ended-one : (n : ℕ) (c : Option ℕ) (rest : List ℕ) → with_distance c rest ≡ ended (suc n) (n ∷ []) c ++ rest
ended-one n None rest = refl
ended-one n (Some k) rest = ap (λ d. d ∷ rest) (let e : suc k ≡ suc n + k - n = omega arith in e)

ended-later : (n : ℕ) (starts : List ℕ) (c : Option ℕ) → ended n starts (option_map suc c) ≡ ended (suc n) starts c
ended-later n starts None = refl
ended-later n starts (Some k) = ap (λ e. map (λ s. e - s) starts) (let e : n + suc k ≡ suc n + k = omega arith in e)

ended-push : (n at : ℕ) (starts : List ℕ) (c : Option ℕ) → ended n (starts ++ at ∷ []) c ≡ ended n starts c ++ ended n (at ∷ []) c
ended-push n at starts None = refl
ended-push n at starts (Some k) = map_push (λ s. n + k - s) starts at

pub step : (to from : Bool) (n : ℕ) (starts ds : List ℕ) (c : Option ℕ) (rest : List ℕ)
    → ds ++ (ended n starts (cond to (Some 0) (option_map suc c)) ++ cond from (with_distance c rest) rest)
    ≡ (ds ++ ended n starts (cond to (Some 0) None)) ++ (ended (suc n) (starts_after to from n starts) c ++ rest)
step true true n starts ds c rest =
    ap (λ x. ds ++ (ended n starts (Some 0) ++ x)) (ended-one n c rest) ∙ sym (append_assoc ds (ended n starts (Some 0)) (ended (suc n) (n ∷ []) c ++ rest))
step true false n starts ds c rest =
    ap (λ x. ds ++ (ended n starts (Some 0) ++ x)) (ap (λ x. x ++ rest) (sym (ended-none (suc n) c))) ∙ sym (append_assoc ds (ended n starts (Some 0)) (ended (suc n) [] c ++ rest))
step false true n starts ds c rest =
    ap (λ x. ds ++ (x ++ with_distance c rest)) (ended-later n starts c)
    ∙ ap (λ x. ds ++ (ended (suc n) starts c ++ x)) (ended-one n c rest)
    ∙ ap (λ x. ds ++ x) (sym (append_assoc (ended (suc n) starts c) (ended (suc n) (n ∷ []) c) rest) ∙ ap (λ x. x ++ rest) (sym (ended-push (suc n) n starts c)))
    ∙ ap (λ x. x ++ (ended (suc n) (starts ++ n ∷ []) c ++ rest)) (sym (append-nil ds))
step false false n starts ds c rest =
    ap (λ x. ds ++ (x ++ rest)) (ended-later n starts c) ∙ ap (λ x. x ++ (ended (suc n) starts c ++ rest)) (sym (append-nil ds))
