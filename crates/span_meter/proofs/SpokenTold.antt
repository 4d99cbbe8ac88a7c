-- What was measured of one span after the clocks that were told: of one that speaks not of every pair.
use Rattle.std.proofs.Common.{◌≡◌, ℕ, zero, suc, ◌+◌, ◌-◌, ◌^◌, ◌<◌, ◌≤◌, Bool, true, false, ◌&&◌, cond, eqb, List, [], ◌∷◌, ◌++◌, Option, None, is_some, length, refl, sym, ap, ◌∙◌, subst, arith, append-nil, append_assoc, length-append, replicate, slice_index_or}
use Rattle.std.proofs.lemmas.List.{length-replicate}
use Rattle.std.proofs.lemmas.Bool.Decides.{nat_tests}
use Rattle.sample_trace.specs.Told.{held_to, last_of, IsNext}
use Rattle.block_core.specs.declared.conduct.Conduct.{Conduct}
use Rattle.block_core.specs.declared.conduct.MachineConduct.{MachineConduct}
use Rattle.span_meter.specs.declared.meter.Meter.{Meter}
use Rattle.span_meter.specs.declared.pins.ShownPins.{ShownPins}
use Rattle.span_meter.specs.declared.assumed.Assumed.{Assumed}
use Rattle.span_meter.specs.declared.spoken_span.SpokenSpan.{SpokenSpan}
use Rattle.span_meter.specs.Assumed.{assumed_after, assumed_from, assumed_up_to, assumed_where, end_before, is_over_before, marks_before, nothing_missed}
use Rattle.span_meter.specs.Events.{SpanEvent, SpanEvents, comes, conduct_of, is_dropped, is_made_at, mark_of, marks, pins_told}
use Rattle.span_meter.specs.Spoken.{Mark, MeasuresMarks, after_mark}
use Rattle.span_meter.specs.SpokenMeters.{AreTimely, MeasuresSpoken, pins_after_told}
use Rattle.span_meter.proofs.SpokenEnds.{assumed-more, counts_one}
use Rattle.span_meter.proofs.Telling.{no_edge}

-- the pins after clocks in a row
pins-append : (before : ShownPins) (xs ys : List Conduct) → pins_after_told before (xs ++ ys) ≡ pins_after_told (pins_after_told before xs) ys
unfolding pins_after_told
pins-append before [] ys = refl
pins-append before (c ∷ xs) ys = pins-append (pins_told c) xs ys

pub pins-more : (pins : ShownPins) (told : List Conduct) (c : Conduct) → pins_after_told pins (told ++ c ∷ []) ≡ pins_told c
unfolding pins_after_told
pins-more pins told c = pins-append pins told (c ∷ [])

last-pins : (c : Conduct) (rest : List Conduct) → pins_told (last_of c rest) ≡ pins_after_told (pins_told c) rest
unfolding pins_after_told
last-pins c [] = refl
last-pins c (d ∷ rest) = last-pins d rest

last-pins-of : (before : ShownPins) (c : Conduct) (rest : List Conduct) → pins_told (last_of c rest) ≡ pins_after_told before (c ∷ rest)
unfolding pins_after_told
last-pins-of before c rest = last-pins c rest

repeated-pins : (n : ℕ) (pins : ShownPins) (c : Conduct) → pins_told c ≡ pins → pins_after_told pins (replicate n c) ≡ pins
unfolding pins_after_told
repeated-pins zero pins c e = refl
repeated-pins (suc n) pins c e = repeated-pins n (pins_told c) c refl ∙ e

pub held-pins : (before : ShownPins) (clock : ℕ) (l : List Conduct) → pins_after_told before (held_to clock l) ≡ pins_after_told before l
held-pins before clock [] = refl
held-pins before clock (c ∷ rest) =
    let n = clock - length (c ∷ rest) in
    pins-append before (c ∷ rest) (replicate n (last_of c rest))
    ∙ repeated-pins n (pins_after_told before (c ∷ rest)) (last_of c rest) (last-pins-of before c rest)

-- the marks of clocks in a row
marks-append : (e : SpanEvents) (clock : ℕ) (before : ShownPins) (xs ys : List Conduct) → marks e clock before (xs ++ ys) ≡ marks e clock before xs ++ marks e (clock + length xs) (pins_after_told before xs) ys
unfolding marks pins_after_told
marks-append e clock before [] ys = ap (λ k. marks e k before ys) (let z : clock ≡ clock + 0 = omega arith in z)
marks-append e clock before (c ∷ xs) ys =
    ap (λ ks. mark_of e clock before c ∷ ks)
    (marks-append e (suc clock) (pins_told c) xs ys
    ∙ ap (λ k. marks e (suc clock) (pins_told c) xs ++ marks e k (pins_after_told (pins_told c) xs) ys) (let z : suc clock + length xs ≡ clock + suc (length xs) = omega arith in z))

marks-length : (e : SpanEvents) (clock : ℕ) (before : ShownPins) (xs : List Conduct) → length (marks e clock before xs) ≡ length xs
unfolding marks
marks-length e clock before [] = refl
marks-length e clock before (c ∷ xs) = ap suc (marks-length e (suc clock) (pins_told c) xs)

marks-more : (e : SpanEvents) (pins : ShownPins) (told : List Conduct) (c : Conduct) → marks e 0 pins (told ++ c ∷ []) ≡ marks e 0 pins told ++ mark_of e (length told) (pins_after_told pins told) c ∷ []
unfolding marks
marks-more e pins told c =
    marks-append e 0 pins told (c ∷ [])
    ∙ ap (λ k. marks e 0 pins told ++ mark_of e k (pins_after_told pins told) c ∷ []) (let z : 0 + length told ≡ length told = omega arith in z)

pub length-more : (told : List Conduct) (c : Conduct) → length (told ++ c ∷ []) ≡ suc (length told)
length-more told c = length-append told (c ∷ []) ∙ (let e : length told + 1 ≡ suc (length told) = omega arith in e)

-- what is known of a span after one clock more, by its events
abbrev one_told : SpanEvents → (clock : ℕ) → (before : ShownPins) → Conduct → SpokenSpan → SpokenSpan
one_told e clock before c s =
    let assumed = assumed_after e clock c s.assumed in
    record { meter = cond (is_over_before (suc clock) assumed) s.meter (after_mark clock (mark_of e clock before c) s.meter); assumed = assumed }

end-more : (e : SpanEvents) (told : List Conduct) (c : Conduct) → assumed_up_to e (told ++ c ∷ []) ≡ end_before (suc (length told)) (assumed_after e (length told) c (assumed_from e 0 nothing_missed told))
unfolding assumed_up_to
end-more e told c =
    ap (λ k. end_before k (assumed_from e 0 nothing_missed (told ++ c ∷ []))) (length-more told c) ∙ ap (end_before (suc (length told))) (assumed-more e nothing_missed told c)

pub end-told : (e : SpanEvents) (told : List Conduct) (s : SpokenSpan) → s.assumed ≡ assumed_from e 0 nothing_missed told → assumed_up_to e told ≡ end_before (length told) s.assumed
unfolding assumed_up_to
end-told e told s same = ap (end_before (length told)) (sym same)

-- one clock more
pub spoken_one : (e : SpanEvents) (pins : ShownPins) (told : List Conduct) (s : SpokenSpan) (c : Conduct) → length told < 2 ^ 64 → MeasuresSpoken e pins told s
    → MeasuresSpoken e pins (told ++ c ∷ []) (one_told e (length told) (pins_after_told pins told) c s)
spoken_one e pins told s c few h =
    let n = length told in
    let k = mark_of e n (pins_after_told pins told) c in
    let ks = marks e 0 pins told in
    let b = assumed_after e n c s.assumed in
    let long : length ks ≡ n = marks-length e 0 pins told in
    let m = cond (is_over_before (suc n) b) s.meter (after_mark n k s.meter) in
    let now = subst (λ (end : Option ℕ). MeasuresMarks (marks_before end ks) s.meter) (end-told e told s h.assumed) h.measures in
    let one : MeasuresMarks (marks_before (end_before (suc n) b) (ks ++ k ∷ [])) m = counts_one e.assume (conduct_of n e.machine c) ks k n s.meter s.assumed long (omega arith) now in
    record {
      assumed = ap (assumed_after e n c) h.assumed ∙ sym (assumed-more e nothing_missed told c);
      measures =
          subst (λ (x : List Mark). MeasuresMarks (marks_before (assumed_up_to e (told ++ c ∷ [])) x) m) (sym (marks-more e pins told c))
          (subst (λ (end : Option ℕ). MeasuresMarks (marks_before end (ks ++ k ∷ [])) m) (ap (λ (a : Assumed). end_before (suc n) (assumed_after e n c a)) h.assumed ∙ sym (end-more e told c)) one);
    }

-- no event comes where the machine does nothing and the pins stay
none_of : (has x : Bool) → cond has (false && x) false ≡ false
none_of true x = refl
none_of false x = refl

nothing : (e : SpanEvent) (before after : ShownPins) → after ≡ before → comes e before after None ≡ false
nothing e before after same =
    ap (λ (b : Bool). cond (is_some e.signal) (b && is_made_at e.at None) false) (no_edge e.signal e.pin e.rise before after same)
    ∙ none_of (is_some e.signal) (is_made_at e.at None)

not_same : (a b : ℕ) → a < b → eqb a b ≡ false
not_same a b h = grind (arith, nat_tests)

abbrev no_mark : Mark
no_mark = record { from = false; to = false; drops = false }

-- what is told longer than its clock marks nothing
mark_none : (e : SpanEvents) (clock : ℕ) (before : ShownPins) (c : Conduct) → c.clock < clock → pins_told c ≡ before → mark_of e clock before c ≡ no_mark
mark_none e clock before c late same =
    let none : conduct_of clock e.machine c ≡ None = ap (λ (b : Bool). cond b (slice_index_or c.machines e.machine None) None) (not_same c.clock clock late) in
    let of : Option MachineConduct → Mark = λ m. record { from = comes e.from before (pins_told c) m; to = comes e.to before (pins_told c) m; drops = is_dropped e m } in
    let mk : Bool → Bool → Mark = λ f t. record { from = f; to = t; drops = false } in
    ap of none ∙ ap (λ f. mk f (comes e.to before (pins_told c) None)) (nothing e.from before (pins_told c) same) ∙ ap (mk false) (nothing e.to before (pins_told c) same)

no_conduct_of : (e : SpanEvents) (clock : ℕ) (c : Conduct) → c.clock < clock → conduct_of clock e.machine c ≡ None
no_conduct_of e clock c late = ap (λ (b : Bool). cond b (slice_index_or c.machines e.machine None) None) (not_same c.clock clock late)

-- and nothing more is known of the span
same_meter : (over : Bool) (m : Meter) → cond over m m ≡ m
same_meter true m = refl
same_meter false m = refl

one_same : (e : SpanEvents) (clock : ℕ) (before : ShownPins) (c : Conduct) (s : SpokenSpan) → c.clock < clock → pins_told c ≡ before → one_told e clock before c s ≡ s
one_same e clock before c s late same =
    let of : Option MachineConduct → Mark → SpokenSpan = λ did k.
    let assumed = assumed_where e.assume clock did s.assumed in
    record { meter = cond (is_over_before (suc clock) assumed) s.meter (after_mark clock k s.meter); assumed = assumed }
    in
    let with_meter : Meter → SpokenSpan = λ m. record { meter = m; assumed = s.assumed } in
    ap (λ did. of did (mark_of e clock before c)) (no_conduct_of e clock c late)
    ∙ ap (of None) (mark_none e clock before c late same)
    ∙ ap with_meter (same_meter (is_over_before (suc clock) s.assumed) s.meter)

spoken_same : (e : SpanEvents) (pins : ShownPins) (told : List Conduct) (s : SpokenSpan) (c : Conduct) → length told < 2 ^ 64 → c.clock < length told → pins_told c ≡ pins_after_told pins told
    → MeasuresSpoken e pins told s → MeasuresSpoken e pins (told ++ c ∷ []) s
spoken_same e pins told s c few late same h =
    subst (MeasuresSpoken e pins (told ++ c ∷ [])) (one_same e (length told) (pins_after_told pins told) c s late same) (spoken_one e pins told s c few h)

spoken_many : (e : SpanEvents) (pins : ShownPins) (told : List Conduct) (s : SpokenSpan) (c : Conduct) (n : ℕ) → length told + n ≤ 2 ^ 64 → c.clock < length told → pins_told c ≡ pins_after_told pins told
    → MeasuresSpoken e pins told s → MeasuresSpoken e pins (told ++ replicate n c) s
spoken_many e pins told s c zero few late same h = subst (λ (xs : List Conduct). MeasuresSpoken e pins xs s) (sym (append-nil told)) h
spoken_many e pins told s c (suc n) few late same h =
    let one = spoken_same e pins told s c (omega arith) late same h in
    let long = length-more told c in
    subst (λ (xs : List Conduct). MeasuresSpoken e pins xs s) (append_assoc told (c ∷ []) (replicate n c))
    (spoken_many e pins (told ++ c ∷ []) s c n (omega arith) (omega arith) (sym (pins-more pins told c)) one)

-- what is told last is of a clock that was told
last_timely : (n : ℕ) (c : Conduct) (rest : List Conduct) → AreTimely n (c ∷ rest) → (last_of c rest).clock ≤ n + length rest
last_timely n c [] h = let l = h.0 in omega arith
last_timely n c (d ∷ rest) h = let l = last_timely (suc n) d rest h.1 in omega arith

pub timely_left : (n : ℕ) (xs ys : List Conduct) → AreTimely n (xs ++ ys) → AreTimely n xs
timely_left n [] ys h = tt
timely_left n (c ∷ xs) ys h = (h.0, timely_left (suc n) xs ys h.1)

pub timely_held : (clock : ℕ) (told : List Conduct) → AreTimely 0 (held_to clock told) → AreTimely 0 told
timely_held clock [] h = tt
timely_held clock (c ∷ rest) h = timely_left 0 (c ∷ rest) (replicate (clock - length (c ∷ rest)) (last_of c rest)) h

-- the clocks that were left out
pub spoken_held : (e : SpanEvents) (pins : ShownPins) (told : List Conduct) (s : SpokenSpan) (clock : ℕ) → clock ≤ 2 ^ 64 → IsNext told clock → AreTimely 0 told
    → MeasuresSpoken e pins told s → MeasuresSpoken e pins (held_to clock told) s
spoken_held e pins [] s clock few next timely h = h
spoken_held e pins (c ∷ rest) s clock few next timely h =
    let after : length (c ∷ rest) ≤ clock = next.after in
    let late = last_timely 0 c rest timely in
    spoken_many e pins (c ∷ rest) s (last_of c rest) (clock - length (c ∷ rest)) (omega arith) (omega arith) (last-pins-of pins c rest) h

pub length-held : (clock : ℕ) (told : List Conduct) → IsNext told clock → length (held_to clock told) ≡ clock
length-held clock [] next = sym (next.first refl)
length-held clock (c ∷ rest) next =
    let n = clock - length (c ∷ rest) in
    let after : length (c ∷ rest) ≤ clock = next.after in
    omega (arith, length-append rest (replicate n (last_of c rest)), length-replicate n (last_of c rest))
