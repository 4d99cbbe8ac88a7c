-- What a meter has measured after the clocks that it was told of: of spans that speak not of every pair.
use Rattle.std.proofs.Common.{◌≡◌, SomeIff, ℕ, zero, suc, ◌+◌, ◌-◌, ◌^◌, ◌<◌, ◌≤◌, List, [], ◌∷◌, ◌++◌, Option, Some, None, length, refl, sym, ap, ◌∙◌, map, subst, arith, append-nil, take, drop, get_or, min}
use Rattle.std.proofs.lemmas.List.{drop_all, map-append, take_all}
use Rattle.std.specs.Prelude.{slice_set}
use Rattle.sample_trace.specs.Told.{held_to, IsNext}
use Rattle.pin_matrix.specs.declared.span.Span.{Span}
use Rattle.block_core.specs.declared.conduct.Conduct.{Conduct}
use Rattle.span_meter.specs.declared.pins.ShownPins.{ShownPins}
use Rattle.span_meter.specs.declared.edges.Edges.{Edges}
use Rattle.span_meter.specs.declared.seen.SeenDistances.{SeenDistances}
use Rattle.span_meter.specs.declared.spoken_span.SpokenSpan.{SpokenSpan}
use Rattle.span_meter.specs.Assumed.{assumed_from, assumed_up_to, end_before, marks_before, spoken_seen}
use Rattle.span_meter.specs.Events.{SpanEvents, events_in, marks, pins_told}
use Rattle.span_meter.specs.Measured.{seen_of}
use Rattle.span_meter.specs.Meters.{ended, fresh}
use Rattle.span_meter.specs.Spoken.{MeasuresMarks, clocks_to_spoken, spoken}
use Rattle.span_meter.specs.SpokenMeters.{AreTimely, EachMeasures, HasSpoken, MeasuresSpoken, SpokenMeters, after_told, clocks_gone, fresh_spoken, pins_after_told, seen_spoken, tell_each}
use Rattle.span_meter.proofs.SpokenTold.{end-told, held-pins, length-held, length-more, pins-more, spoken_held, spoken_one, timely_held, timely_left}

-- what is said of all, where each has measured
seen_one : (e : SpanEvents) (pins : ShownPins) (told : List Conduct) (s : SpokenSpan) (clocks : ℕ) → clocks ≡ length told → MeasuresSpoken e pins told s → seen_spoken clocks s ≡ spoken_seen e pins told
unfolding spoken_seen
seen_one e pins told s clocks long h =
    let with_end : Option ℕ → SeenDistances → SeenDistances = λ end d. record d { assumed = end } in
    let end : end_before clocks s.assumed ≡ assumed_up_to e told = ap (λ k. end_before k s.assumed) long ∙ sym (end-told e told s h.assumed) in
    ap (with_end (end_before clocks s.assumed)) h.measures.counts.seen
    ∙ ap (λ end. with_end end (seen_of (spoken (marks_before (assumed_up_to e told) (marks e 0 pins told))))) end

seen_by_all : (pins : ShownPins) (told : List Conduct) (clocks : ℕ) → clocks ≡ length told → (sps : List Span) (known : List SpokenSpan) → EachMeasures pins told sps known
    → map (seen_spoken clocks) known ≡ map (λ e. spoken_seen e pins told) (map events_in sps)
seen_by_all pins told clocks long [] [] h = refl
seen_by_all pins told clocks long [] (s ∷ known) h = absurd h
seen_by_all pins told clocks long (sp ∷ sps) [] h = absurd h
seen_by_all pins told clocks long (sp ∷ sps) (s ∷ known) h =
    ap (λ x. x ∷ map (seen_spoken clocks) known) (seen_one (events_in sp) pins told s clocks long h.0)
    ∙ ap (λ xs. spoken_seen (events_in sp) pins told ∷ xs) (seen_by_all pins told clocks long sps known h.1)

spoken_by : (pins : ShownPins) (events : List SpanEvents) (told : List Conduct) (t : SpokenMeters) → t.first ≡ pins → t.last ≡ pins_after_told pins told → clocks_gone t.gone ≡ length told → length told ≤ 2 ^ 64
    → map events_in t.spans ≡ events → EachMeasures pins told t.spans t.known → HasSpoken pins events told t
spoken_by pins events told t first last gone few w each = record {
  first = first;
  last = last;
  gone = gone;
  few = few;
  watches = w;
  each = each;
  seen = seen_by_all pins told (clocks_gone t.gone) gone t.spans t.known each ∙ ap (map (λ e. spoken_seen e pins told)) w;
}

-- a meter before the first clock
marks_none : (edges : Edges) → MeasuresMarks [] (fresh edges)
unfolding spoken clocks_to_spoken
marks_none edges = record {
  starts = [];
  counts = record {
    seen = refl;
    begun = omega arith;
    first = λ none. absurd (omega arith);
    last = λ none. absurd (omega arith);
    greatest = λ e none. absurd (omega arith);
    least = λ e none. absurd (omega arith);
  };
  going = λ rest. on (clocks_to_spoken rest) (spoken rest);
} where
  on : (c : Option ℕ) (ds : List ℕ) → ds ≡ ended 0 [] c ++ ds
  on None ds = refl
  on (Some k) ds = refl

spoken_none : (e : SpanEvents) (pins : ShownPins) (edges : Edges) → MeasuresSpoken e pins [] (fresh_spoken edges)
unfolding marks assumed_from assumed_up_to
spoken_none e pins edges = record { assumed = refl; measures = marks_none edges }

all_fresh : (pins : ShownPins) (sps : List Span) (known : List SpokenSpan) → length known ≡ length sps → EachMeasures pins [] sps (map (λ s. fresh_spoken s.meter.edges) known)
all_fresh pins [] [] h = tt
all_fresh pins [] (s ∷ known) h = absurd (omega arith)
all_fresh pins (sp ∷ sps) [] h = absurd (omega arith)
all_fresh pins (sp ∷ sps) (s ∷ known) h = (spoken_none (events_in sp) pins s.meter.edges, all_fresh pins sps known (omega arith))

pub begin_spoken : (pins : ShownPins) (events : List SpanEvents) (known : List SpokenSpan) (t : SpokenMeters) → map events_in t.spans ≡ events → t.first ≡ pins → t.last ≡ pins → t.gone ≡ None → length known ≡ length t.spans
    → t.known ≡ map (λ s. fresh_spoken s.meter.edges) known → HasSpoken pins events [] t
unfolding pins_after_told
begin_spoken pins events known t w first last gone many fresh_ones =
    spoken_by pins events [] t first last (ap clocks_gone gone) (omega arith) w
    (subst (EachMeasures pins [] t.spans) (sym fresh_ones) (all_fresh pins t.spans known many))

all_held : (pins : ShownPins) (told : List Conduct) (clock : ℕ) → clock ≤ 2 ^ 64 → IsNext told clock → AreTimely 0 told → (sps : List Span) (known : List SpokenSpan)
    → EachMeasures pins told sps known → EachMeasures pins (held_to clock told) sps known
all_held pins told clock few next timely [] [] h = tt
all_held pins told clock few next timely [] (s ∷ known) h = absurd h
all_held pins told clock few next timely (sp ∷ sps) [] h = absurd h
all_held pins told clock few next timely (sp ∷ sps) (s ∷ known) h = (
  spoken_held (events_in sp) pins told s clock few next timely h.0,
  all_held pins told clock few next timely sps known h.1,
)

-- the clocks held to one
pub held_spoken : (pins : ShownPins) (events : List SpanEvents) (told : List Conduct) (t u : SpokenMeters) (clock : ℕ) → clock ≤ 2 ^ 64 → IsNext told clock → AreTimely 0 (held_to clock told)
    → (AreTimely 0 told → HasSpoken pins events told t) → u.first ≡ t.first → u.last ≡ t.last → u.spans ≡ t.spans → u.known ≡ t.known → clocks_gone u.gone ≡ clock → HasSpoken pins events (held_to clock told) u
held_spoken pins events told t u clock few next timely had first last spans known gone =
    let left = timely_held clock told timely in
    let h = had left in
    let long = length-held clock told next in
    let each = all_held pins told clock few next left t.spans t.known h.each in
    spoken_by pins events (held_to clock told) u (first ∙ h.first) (last ∙ h.last ∙ sym (held-pins pins clock told)) (gone ∙ sym long) (omega arith)
    (ap (map events_in) spans ∙ h.watches)
    (subst (λ (sps : List Span). EachMeasures pins (held_to clock told) sps u.known) (sym spans)
    (subst (EachMeasures pins (held_to clock told) t.spans) (sym known) each))

all_told : (pins : ShownPins) (told : List Conduct) (c : Conduct) → length told < 2 ^ 64 → (sps : List Span) (known : List SpokenSpan)
    → EachMeasures pins told sps known → EachMeasures pins (told ++ c ∷ []) sps (tell_each (length told) (pins_after_told pins told) c sps known)
all_told pins told c few [] [] h = tt
all_told pins told c few [] (s ∷ known) h = absurd h
all_told pins told c few (sp ∷ sps) [] h = absurd h
all_told pins told c few (sp ∷ sps) (s ∷ known) h = (spoken_one (events_in sp) pins told s c few h.0, all_told pins told c few sps known h.1)

-- a clock after those that were told
pub told_spoken : (pins : ShownPins) (events : List SpanEvents) (told : List Conduct) (t u : SpokenMeters) (c : Conduct) (clock : ℕ) → clock < 2 ^ 64 → IsNext told clock → AreTimely 0 (held_to clock told ++ c ∷ [])
    → (AreTimely 0 told → HasSpoken pins events told t) → u.first ≡ t.first → u.last ≡ pins_told c → u.spans ≡ t.spans → u.known ≡ tell_each clock t.last c t.spans t.known → u.gone ≡ Some clock
    → HasSpoken pins events (held_to clock told ++ c ∷ []) u
told_spoken pins events told t u c clock few next timely had first last spans known gone =
    let all = held_to clock told in
    let left = timely_left 0 all (c ∷ []) timely in
    let back = timely_held clock told left in
    let h = had back in
    let long = length-held clock told next in
    let more = length-more all c in
    let each = all_held pins told clock (omega arith) next back t.spans t.known h.each in
    let same : u.known ≡ tell_each (length all) (pins_after_told pins all) c t.spans t.known =
    known ∙ ap (λ k. tell_each k t.last c t.spans t.known) (sym long) ∙ ap (λ b. tell_each (length all) b c t.spans t.known) (h.last ∙ sym (held-pins pins clock told)) in
    spoken_by pins events (all ++ c ∷ []) u (first ∙ h.first) (last ∙ sym (pins-more pins all c)) (ap clocks_gone gone ∙ ap suc (sym long) ∙ sym more) (omega arith)
    (ap (map events_in) spans ∙ h.watches)
    (subst (λ (sps : List Span). EachMeasures pins (all ++ c ∷ []) sps u.known) (sym spans)
    (subst (EachMeasures pins (all ++ c ∷ []) t.spans) (sym same) (all_told pins all c (omega arith) t.spans t.known each)))

-- the spans up to one are told
pub tell_step : (clock : ℕ) (before : ShownPins) (c : Conduct) (sps : List Span) (ms : List SpokenSpan) (i : ℕ) (sp : Span) (m : SpokenSpan) → i < length sps → i < length ms → sp ≡ get_or sps i sp
    → m ≡ get_or (tell_each clock before c (take i sps) ms) i m → slice_set (tell_each clock before c (take i sps) ms) i (after_told clock before c sp m) ≡ tell_each clock before c (take (i + 1) sps) ms
tell_step clock before c [] ms i sp m low small is has = absurd (omega arith)
tell_step clock before c (s ∷ sps) [] i sp m low small is has = absurd (omega arith)
tell_step clock before c (s ∷ sps) (x ∷ ms) zero sp m low small is has =
    ap (λ (y : Span). after_told clock before c y m ∷ ms) is ∙ ap (λ (y : SpokenSpan). after_told clock before c s y ∷ ms) has
tell_step clock before c (s ∷ sps) (x ∷ ms) (suc i) sp m low small is has =
    ap (λ (rest : List SpokenSpan). after_told clock before c s x ∷ rest) (tell_step clock before c sps ms i sp m (omega arith) (omega arith) is has)
    ∙ ap (λ (n : ℕ). tell_each clock before c (take n (s ∷ sps)) (x ∷ ms)) (let e : suc (i + 1) ≡ suc i + 1 = omega arith in e)

-- the others stay
pub tell_done : (clock : ℕ) (before : ShownPins) (c : Conduct) (sps : List Span) (ms : List SpokenSpan) (i : ℕ) → min (length sps) (length ms) ≤ i → tell_each clock before c (take i sps) ms ≡ tell_each clock before c sps ms
tell_done clock before c [] ms zero h = refl
tell_done clock before c [] ms (suc i) h = refl
tell_done clock before c (s ∷ sps) [] zero h = refl
tell_done clock before c (s ∷ sps) [] (suc i) h = refl
tell_done clock before c (s ∷ sps) (x ∷ ms) zero h = absurd (omega arith)
tell_done clock before c (s ∷ sps) (x ∷ ms) (suc i) h = ap (λ (rest : List SpokenSpan). after_told clock before c s x ∷ rest) (tell_done clock before c sps ms i (omega arith))

pub tell_length : (clock : ℕ) (before : ShownPins) (c : Conduct) (sps : List Span) (ms : List SpokenSpan) → length (tell_each clock before c sps ms) ≡ length ms
tell_length clock before c [] ms = refl
tell_length clock before c (s ∷ sps) [] = refl
tell_length clock before c (s ∷ sps) (x ∷ ms) = ap suc (tell_length clock before c sps ms)

-- what is known before the first clock of one span more
pub more_fresh : (ms next : List SpokenSpan) (e : Edges) (m : SpokenSpan) → next ≡ ms ++ m ∷ [] → m ≡ fresh_spoken e → ms ≡ map (λ (s : SpokenSpan). fresh_spoken s.meter.edges) ms
    → next ≡ map (λ (s : SpokenSpan). fresh_spoken s.meter.edges) next
more_fresh ms next e m h k all =
    let f : SpokenSpan → SpokenSpan = λ s. fresh_spoken s.meter.edges in
    h ∙ ap (λ x. x ++ m ∷ []) all ∙ ap (λ x. map f ms ++ x ∷ []) (k ∙ sym (ap f k)) ∙ sym (map-append f ms (m ∷ [])) ∙ ap (map f) (sym h)

-- a map in place, at its end
pub known_done : (f : SpokenSpan → SpokenSpan) (xs ys : List SpokenSpan) (i : ℕ) → length xs ≤ i → ys ≡ map f (take i xs) ++ drop i xs → ys ≡ map f xs
known_done f xs ys i h e = e ∙ ap (λ t. map f t ++ drop i xs) (take_all i xs h) ∙ ap (λ t. map f xs ++ t) (drop_all i xs h) ∙ append-nil (map f xs)

-- the last clock that has gone by is the one before this
pub gone_before : (clock : ℕ) (last : Option ℕ) → SomeIff last (1 ≤ clock) (clock - 1) → clocks_gone last ≡ clock
gone_before zero None h = refl
gone_before (suc clock) None h = absurd (h (omega arith))
gone_before clock (Some n) h = let low = h.0 in let is = h.1 in omega arith
