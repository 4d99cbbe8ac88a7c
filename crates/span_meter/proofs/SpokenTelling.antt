-- What a meter has measured after clocks with marks: of a span that speaks not of every pair.
use Rattle.std.proofs.Common.{◌≡◌, ℕ, suc, ◌+◌, ◌^◌, ◌<◌, ◌≤◌, Bool, true, false, cond, List, [], ◌∷◌, ◌++◌, Option, Some, None, length, refl, sym, ap, ◌∙◌, subst, arith, append-nil, append_assoc, length-append}
use Rattle.std.specs.Option.{option_map}
use Rattle.span_meter.specs.declared.meter.Meter.{Meter}
use Rattle.span_meter.specs.Measured.{with_distance}
use Rattle.span_meter.specs.Meters.{IsCountOf, ended, most}
use Rattle.span_meter.specs.Spoken.{Mark, MeasuresMarks, after_mark, clocks_to_spoken, dropped, spoken}
use Rattle.span_meter.proofs.Counting.{ended-none, starts_after, step}
use Rattle.span_meter.proofs.Distances.{none_more, some_more}
use Rattle.span_meter.proofs.Telling.{counts_after, no_rest}

-- the last clock ends a pair, but begins none
fewer_spoken : (k : Mark) (ks : List Mark) → length (spoken (k ∷ ks)) ≤ length ks
unfolding spoken clocks_to_spoken
fewer_spoken k [] = none_more k.from
fewer_spoken k (j ∷ js) = some_more k.from (clocks_to_spoken (j ∷ js)) (spoken (j ∷ js)) (length js) (fewer_spoken j js)

fewer_than : (ks : List Mark) → length ks ≤ 2 ^ 64 → length (spoken ks) ≤ most
unfolding spoken
fewer_than [] h = omega arith
fewer_than (k ∷ ks) h = let f = fewer_spoken k ks in omega arith

-- the clocks of the from-events that are still spoken of
abbrev pub starts_left : (drops : Bool) → List ℕ → List ℕ
starts_left true starts = []
starts_left false starts = starts

drops_counts : (drops : Bool) (ds starts : List ℕ) (n : ℕ) (m : Meter) → IsCountOf ds starts n m → IsCountOf ds (starts_left drops starts) n (dropped drops m)
drops_counts true ds starts n m h = record {
  seen = h.seen;
  begun = omega arith;
  first = λ none. absurd (omega arith);
  last = λ none. absurd (omega arith);
  greatest = λ e none. absurd (omega arith);
  least = λ e none. absurd (omega arith);
}
drops_counts false ds starts n m h = h

drops_ends : (drops : Bool) (n : ℕ) (starts : List ℕ) (c : Option ℕ) → ended n starts (cond drops None c) ≡ ended n (starts_left drops starts) c
drops_ends true n starts c = sym (ended-none n c)
drops_ends false n starts c = refl

length-more : (ks : List Mark) (k : Mark) → length (ks ++ k ∷ []) ≡ suc (length ks)
length-more ks k = length-append ks (k ∷ []) ∙ (let e : length ks + 1 ≡ suc (length ks) = omega arith in e)

-- what is measured with these clocks more, the first of which has this mark
going_on : (ks : List Mark) (k : Mark) (m : Meter) → (h : MeasuresMarks ks m) → (rest : List Mark)
    → spoken (ks ++ k ∷ rest) ≡ (spoken ks ++ ended (length ks) (starts_left k.drops h.starts) (cond k.to (Some 0) None))
    ++ (ended (suc (length ks)) (starts_after k.to k.from (length ks) (starts_left k.drops h.starts)) (clocks_to_spoken rest) ++ spoken rest)
unfolding spoken clocks_to_spoken
going_on ks k m h rest =
    let n = length ks in
    let left = starts_left k.drops h.starts in
    h.going (k ∷ rest)
    ∙ ap (λ (x : List ℕ). spoken ks ++ (x ++ cond k.from (with_distance (clocks_to_spoken rest) (spoken rest)) (spoken rest))) (drops_ends k.drops n h.starts (cond k.to (Some 0) (option_map suc (clocks_to_spoken rest))))
    ∙ step k.to k.from n left (spoken ks) (clocks_to_spoken rest) (spoken rest)

one_more : (ks : List Mark) (k : Mark) (m : Meter) → (h : MeasuresMarks ks m) → spoken (ks ++ k ∷ []) ≡ spoken ks ++ ended (length ks) (starts_left k.drops h.starts) (cond k.to (Some 0) None)
unfolding spoken clocks_to_spoken
one_more ks k m h =
    let ends = ended (length ks) (starts_left k.drops h.starts) (cond k.to (Some 0) None) in
    h.going (k ∷ [])
    ∙ ap (λ (x : List ℕ). spoken ks ++ (x ++ cond k.from (with_distance None []) [])) (drops_ends k.drops (length ks) h.starts (cond k.to (Some 0) None))
    ∙ ap (λ (x : List ℕ). spoken ks ++ (ends ++ x)) (no_rest k.from None) ∙ ap (λ (x : List ℕ). spoken ks ++ x) (append-nil ends)

-- one clock more
pub marks_one : (ks : List Mark) (k : Mark) (m : Meter) → length ks < 2 ^ 64 → MeasuresMarks ks m → MeasuresMarks (ks ++ k ∷ []) (after_mark (length ks) k m)
marks_one ks k m few h =
    let n = length ks in
    let left = starts_left k.drops h.starts in
    let long = length-more ks k in
    let more = one_more ks k m h in
    let next = after_mark n k m in
    let ds = spoken ks ++ ended n left (cond k.to (Some 0) None) in
    let starts = starts_after k.to k.from n left in
    let short : length ds ≤ most = subst (λ (xs : List ℕ). length xs ≤ most) more (fewer_than (ks ++ k ∷ []) (omega arith)) in
    record {
      starts = starts;
      counts =
          subst (λ (i : ℕ). IsCountOf (spoken (ks ++ k ∷ [])) starts i next) (sym long)
          (subst (λ (xs : List ℕ). IsCountOf xs starts (suc n) next) (sym more)
          (counts_after k.to k.from n (spoken ks) left (dropped k.drops m) (drops_counts k.drops (spoken ks) h.starts n m h.counts) short));
      going = λ rest.
          ap spoken (append_assoc ks (k ∷ []) rest)
          ∙ going_on ks k m h rest
          ∙ ap (λ (x : List ℕ). x ++ (ended (suc n) starts (clocks_to_spoken rest) ++ spoken rest)) (sym more)
          ∙ ap (λ (i : ℕ). spoken (ks ++ k ∷ []) ++ (ended i starts (clocks_to_spoken rest) ++ spoken rest)) (sym long);
    }
