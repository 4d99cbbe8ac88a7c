-- What a meter has measured after the samples that it was told of.
use Rattle.std.proofs.Common.{◌≡◌, ℕ, zero, suc, ◌+◌, ◌-◌, ◌^◌, ◌<◌, ◌≤◌, Bool, true, false, cond, List, [], ◌∷◌, ◌++◌, Option, Some, None, length, refl, sym, ap, ◌∙◌, map, subst, arith, append-nil, append_assoc, length-append, replicate, take, drop, get_or}
use Rattle.std.proofs.lemmas.List.{drop_all, length-replicate, map-append, map_more, take_all}
use Rattle.std.specs.List.{AllByRecursion}
use Rattle.pin_matrix.specs.declared.span.Span.{Span}
use Rattle.block_core.specs.declared.sample.Sample.{Sample}
use Rattle.sample_trace.specs.Told.{held_to, last_of, IsNext}
use Rattle.span_meter.proofs.HeldPins.{held-pins, last-pins-of, pins-append}
use Rattle.span_meter.specs.declared.edges.Edges.{Edges}
use Rattle.span_meter.specs.declared.meter.Meter.{Meter}
use Rattle.span_meter.specs.declared.pins.ShownPins.{ShownPins}
use Rattle.pin_matrix.specs.declared.span.PinSignal.{PinSignal}
use Rattle.pin_matrix.specs.declared.span.PinSignal.TheVariants.{Level, Direction}
use Rattle.pin_matrix.specs.Pins.{is_high}
use Rattle.block_core.specs.Edges.{changes, has_edge}
use Rattle.span_meter.specs.Measured.{SpanEdges, clocks_to, ends_in, is_from, is_to, measured, pins_after, pins_of, seen_of, signal_of, with_distance}
use Rattle.span_meter.specs.Kept.{ends_of}
use Rattle.span_meter.specs.Meters.{IsCountOf, HasMeasured, Measures, Meters, after_clock, closed_at, closing, ended, ends_code, first_told, fresh, most, moved, opened_at, rise_code, seen_by, signal_code, watched}
use Rattle.span_meter.proofs.Distances.{fewer}
use Rattle.span_meter.proofs.Counting.{closes, later, opens, starts_after, step}

kept : (o : Bool) (m x : Meter) → x.edges ≡ m.edges → (cond o m x).edges ≡ m.edges
kept true m x h = refl
kept false m x h = h

same_edges : (to from : Bool) (n : ℕ) (m : Meter) → (moved to from n m).edges ≡ m.edges
unfolding opened_at closed_at
same_edges true true n m = kept _ m (closing n m) refl
same_edges true false n m = kept _ m (closing n m) refl
same_edges false true n m = refl
same_edges false false n m = refl

pub counts_after : (to from : Bool) (n : ℕ) (ds starts : List ℕ) (m : Meter) → IsCountOf ds starts n m → length (ds ++ ended n starts (cond to (Some 0) None)) ≤ most
    → IsCountOf (ds ++ ended n starts (cond to (Some 0) None)) (starts_after to from n starts) (suc n) (moved to from n m)
counts_after true true n ds starts m h few = opens _ [] n (closed_at n m) (closes ds starts n m h few)
counts_after true false n ds starts m h few = later _ [] n (closed_at n m) (closes ds starts n m h few)
counts_after false true n ds starts m h few = subst (λ (xs : List ℕ). IsCountOf xs (starts ++ n ∷ []) (suc n) (opened_at n m)) (sym (append-nil ds)) (opens ds starts n m h)
counts_after false false n ds starts m h few = subst (λ (xs : List ℕ). IsCountOf xs starts (suc n) m) (sym (append-nil ds)) (later ds starts n m h)

pub no_rest : (from : Bool) (c : Option ℕ) → cond from (with_distance None []) [] ≡ []
no_rest true c = refl
no_rest false c = refl

-- what is measured with one sample more
one_more : (e : SpanEdges) (pins : ShownPins) (told : List Sample) (m : Meter) (s : Sample) → (h : Measures e pins told m)
    → measured e pins (told ++ s ∷ []) ≡ measured e pins told ++ ended (length told) h.starts (cond (is_to e (pins_after pins told) (pins_of s)) (Some 0) None)
unfolding measured clocks_to
one_more e pins told m s h =
    let b = pins_after pins told in
    let ends = ended (length told) h.starts (cond (is_to e b (pins_of s)) (Some 0) None) in
    h.going (s ∷ []) ∙ ap (λ x. measured e pins told ++ (ends ++ x)) (no_rest (is_from e b (pins_of s)) None) ∙ ap (λ x. measured e pins told ++ x) (append-nil ends)

length-more : (told : List Sample) (s : Sample) → length (told ++ s ∷ []) ≡ suc (length told)
length-more told s = length-append told (s ∷ []) ∙ (let e : length told + 1 ≡ suc (length told) = omega arith in e)

fewer_than : (e : SpanEdges) (pins : ShownPins) (told : List Sample) → length told ≤ 2 ^ 64 → length (measured e pins told) ≤ most
unfolding measured
fewer_than e pins [] h = omega arith
fewer_than e pins (s ∷ rest) h = let f = fewer e pins s rest in omega arith

pins-more : (pins : ShownPins) (told : List Sample) (s : Sample) → pins_after pins (told ++ s ∷ []) ≡ pins_of s
unfolding pins_after
pins-more pins told s = pins-append pins told (s ∷ [])

-- one clock more
pub told_one : (e : SpanEdges) (pins : ShownPins) (told : List Sample) (m : Meter) (s : Sample) → length told < 2 ^ 64 → Measures e pins told m
    → Measures e pins (told ++ s ∷ []) (moved (is_to e (pins_after pins told) (pins_of s)) (is_from e (pins_after pins told) (pins_of s)) (length told) m)
unfolding measured clocks_to
told_one e pins told m s few h =
    let b = pins_after pins told in
    let n = length told in
    let to = is_to e b (pins_of s) in
    let from = is_from e b (pins_of s) in
    let long = length-more told s in
    let more = one_more e pins told m s h in
    let ds = measured e pins told ++ ended n h.starts (cond to (Some 0) None) in
    let starts = starts_after to from n h.starts in
    let short : length ds ≤ most = subst (λ (xs : List ℕ). length xs ≤ most) more (fewer_than e pins (told ++ s ∷ []) (omega arith)) in
    record {
      starts = starts;
      counts =
          subst (λ k. IsCountOf (measured e pins (told ++ s ∷ [])) starts k (moved to from n m)) (sym long)
          (subst (λ (xs : List ℕ). IsCountOf xs starts (suc n) (moved to from n m)) (sym more) (counts_after to from n (measured e pins told) h.starts m h.counts short));
      going = λ rest.
          ap (measured e pins) (append_assoc told (s ∷ []) rest)
          ∙ h.going (s ∷ rest)
          ∙ step to from n h.starts (measured e pins told) (clocks_to e (pins_of s) rest) (measured e (pins_of s) rest)
          ∙ ap (λ x. x ++ (ended (suc n) starts (clocks_to e (pins_of s) rest) ++ measured e (pins_of s) rest)) (sym more)
          ∙ ap (λ k. measured e pins (told ++ s ∷ []) ++ (ended k starts (clocks_to e (pins_of s) rest) ++ measured e (pins_of s) rest)) (sym long)
          ∙ ap (λ v. measured e pins (told ++ s ∷ []) ++ (ended (length (told ++ s ∷ [])) starts (clocks_to e v rest) ++ measured e v rest)) (sym (pins-more pins told s));
    }

-- a signal that stays has no edge
pub no_change : (rise b : Bool) → changes rise b b ≡ false
no_change true true = refl
no_change true false = refl
no_change false true = refl
no_change false false = refl

pub no_edge : (signal : Option PinSignal) (pin : ℕ) (rise : Bool) (b v : ShownPins) → v ≡ b → has_edge pin rise (signal_of signal b) (signal_of signal v) ≡ false
no_edge signal pin rise b v h =
    let was : Bool = is_high (signal_of signal b) pin in
    ap (λ (x : ShownPins). changes rise was (is_high (signal_of signal x) pin)) h ∙ no_change rise was

-- a sample that repeats the pins changes nothing
told_same : (e : SpanEdges) (pins : ShownPins) (told : List Sample) (m : Meter) (s : Sample) → length told < 2 ^ 64 → pins_of s ≡ pins_after pins told
    → Measures e pins told m → Measures e pins (told ++ s ∷ []) m
told_same e pins told m s few same h =
    let b = pins_after pins told in
    let n = length told in
    let P : Bool → Bool → Type 0 = λ to from. Measures e pins (told ++ s ∷ []) (moved to from n m) in
    let once = subst (λ to. P to (is_from e b (pins_of s))) (no_edge e.to_signal e.to_pin e.to_rise b (pins_of s) same) (told_one e pins told m s few h) in
    subst (P false) (no_edge e.from_signal e.from_pin e.from_rise b (pins_of s) same) once

-- nor do more of them
told_many : (e : SpanEdges) (pins : ShownPins) (told : List Sample) (m : Meter) (s : Sample) (n : ℕ) → length told + n ≤ 2 ^ 64 → pins_of s ≡ pins_after pins told
    → Measures e pins told m → Measures e pins (told ++ replicate n s) m
told_many e pins told m s zero few same h = subst (λ (xs : List Sample). Measures e pins xs m) (sym (append-nil told)) h
told_many e pins told m s (suc n) few same h =
    let one = told_same e pins told m s (omega arith) same h in
    let long = length-more told s in
    subst (λ (xs : List Sample). Measures e pins xs m) (append_assoc told (s ∷ []) (replicate n s))
    (told_many e pins (told ++ s ∷ []) m s n (omega arith) (sym (pins-more pins told s)) one)

-- the clocks that were left out
pub told_held : (e : SpanEdges) (pins : ShownPins) (told : List Sample) (m : Meter) (clock : ℕ) → clock ≤ 2 ^ 64 → IsNext told clock
    → Measures e pins told m → Measures e pins (held_to clock told) m
told_held e pins [] m clock few next h = h
told_held e pins (s ∷ rest) m clock few next h =
    let after : length (s ∷ rest) ≤ clock = next.after in
    told_many e pins (s ∷ rest) m (last_of s rest) (clock - length (s ∷ rest)) (omega arith) (last-pins-of pins s rest) h

length-held : (clock : ℕ) (told : List Sample) → IsNext told clock → length (held_to clock told) ≡ clock
length-held clock [] next = sym (next.first refl)
length-held clock (s ∷ rest) next =
    let n = clock - length (s ∷ rest) in
    let after : length (s ∷ rest) ≤ clock = next.after in
    omega (arith, length-append rest (replicate n (last_of s rest)), length-replicate n (last_of s rest))

-- a meter before the first sample
pub told_none : (e : SpanEdges) (pins : ShownPins) (edges : Edges) → Measures e pins [] (fresh edges)
unfolding measured clocks_to pins_after
told_none e pins edges = record {
  starts = [];
  counts = record {
    seen = refl;
    begun = omega arith;
    first = λ none. absurd (omega arith);
    last = λ none. absurd (omega arith);
    greatest = λ e none. absurd (omega arith);
    least = λ e none. absurd (omega arith);
  };
  going = λ rest. on (clocks_to e pins rest) (measured e pins rest);
} where
  on : (c : Option ℕ) (ds : List ℕ) → ds ≡ ended 0 [] c ++ ds
  on None ds = refl
  on (Some k) ds = refl

-- what all meters say, where each has measured
seen_by_all : (pins : ShownPins) (told : List Sample) (ms : List Meter) → AllByRecursion (λ m. Measures (ends_of m.edges) pins told m) ms
    → map seen_by ms ≡ map (λ e. seen_of (measured e pins told)) (watched ms)
seen_by_all pins told [] h = refl
seen_by_all pins told (m ∷ ms) h =
    ap (λ x. x ∷ map seen_by ms) h.0.counts.seen
    ∙ ap (λ xs. seen_of (measured (ends_of m.edges) pins told) ∷ xs) (seen_by_all pins told ms h.1)

measured_by : (pins : ShownPins) (ends : List SpanEdges) (told : List Sample) (t : Meters) → t.first ≡ pins → t.last ≡ pins_after pins told → length told ≤ 2 ^ 64
    → watched t.meters ≡ ends → AllByRecursion (λ m. Measures (ends_of m.edges) pins told m) t.meters → HasMeasured pins ends told t
measured_by pins ends told t first last few w each = record {
  first = first;
  last = last;
  few = few;
  watches = w;
  each = each;
  seen = seen_by_all pins told t.meters each ∙ ap (map (λ e. seen_of (measured e pins told))) w;
}

all_fresh : (pins : ShownPins) (ms : List Meter) → AllByRecursion (λ m. Measures (ends_of m.edges) pins [] m) (map (λ m. fresh m.edges) ms)
all_fresh pins [] = tt
all_fresh pins (m ∷ ms) = (told_none (ends_of m.edges) pins m.edges, all_fresh pins ms)

watched-fresh : (ms : List Meter) → watched (map (λ m. fresh m.edges) ms) ≡ watched ms
watched-fresh [] = refl
watched-fresh (m ∷ ms) = ap (λ xs. ends_of m.edges ∷ xs) (watched-fresh ms)

-- fresh meters have measured what is in no sample
pub begin_measured : (pins : ShownPins) (ends : List SpanEdges) (ms : List Meter) (t : Meters) → watched ms ≡ ends → t.first ≡ pins → t.last ≡ pins
    → t.meters ≡ map (λ m. fresh m.edges) ms → HasMeasured pins ends [] t
unfolding pins_after
begin_measured pins ends ms t w first last fresh_ones =
    measured_by pins ends [] t first last (omega arith) (ap watched fresh_ones ∙ watched-fresh ms ∙ w)
    (subst (AllByRecursion (λ m. Measures (ends_of m.edges) pins [] m)) (sym fresh_ones) (all_fresh pins ms))

all_held : (pins : ShownPins) (told : List Sample) (clock : ℕ) → clock ≤ 2 ^ 64 → IsNext told clock → (ms : List Meter)
    → AllByRecursion (λ m. Measures (ends_of m.edges) pins told m) ms → AllByRecursion (λ m. Measures (ends_of m.edges) pins (held_to clock told) m) ms
all_held pins told clock few next [] h = tt
all_held pins told clock few next (m ∷ ms) h = (told_held (ends_of m.edges) pins told m clock few next h.0, all_held pins told clock few next ms h.1)

-- the samples held to a clock
pub held_measured : (pins : ShownPins) (ends : List SpanEdges) (told : List Sample) (t : Meters) (clock : ℕ) → clock ≤ 2 ^ 64 → IsNext told clock
    → HasMeasured pins ends told t → HasMeasured pins ends (held_to clock told) t
held_measured pins ends told t clock few next h =
    let long = length-held clock told next in
    measured_by pins ends (held_to clock told) t h.first (h.last ∙ sym (held-pins pins clock told)) (omega arith) h.watches
    (all_held pins told clock few next t.meters h.each)

all_told : (pins : ShownPins) (told : List Sample) (s : Sample) → length told < 2 ^ 64 → (ms : List Meter)
    → AllByRecursion (λ m. Measures (ends_of m.edges) pins told m) ms
    → AllByRecursion (λ m. Measures (ends_of m.edges) pins (told ++ s ∷ []) m) (map (after_clock (length told) (pins_after pins told) (pins_of s)) ms)
unfolding after_clock
all_told pins told s few [] h = tt
all_told pins told s few (m ∷ ms) h =
    let e = ends_of m.edges in
    let to = is_to e (pins_after pins told) (pins_of s) in
    let from = is_from e (pins_after pins told) (pins_of s) in
    let next = moved to from (length told) m in (
      subst (λ (x : Edges). Measures (ends_of x) pins (told ++ s ∷ []) next) (sym (same_edges to from (length told) m)) (told_one e pins told m s few h.0),
      all_told pins told s few ms h.1,
    )

watched-told : (clock : ℕ) (before after : ShownPins) (ms : List Meter) → watched (map (after_clock clock before after) ms) ≡ watched ms
unfolding after_clock
watched-told clock before after [] = refl
watched-told clock before after (m ∷ ms) =
    let e = ends_of m.edges in
    ap (λ x. ends_of x ∷ watched (map (after_clock clock before after) ms)) (same_edges (is_to e before after) (is_from e before after) clock m)
    ∙ ap (λ xs. e ∷ xs) (watched-told clock before after ms)

-- one sample more
pub sample_measured : (pins : ShownPins) (ends : List SpanEdges) (told : List Sample) (t u : Meters) (s : Sample) (clock : ℕ) → length told ≡ clock → clock < 2 ^ 64
    → HasMeasured pins ends told t → u.first ≡ t.first → u.last ≡ pins_of s → u.meters ≡ map (after_clock clock t.last (pins_of s)) t.meters
    → HasMeasured pins ends (told ++ s ∷ []) u
sample_measured pins ends told t u s clock long few h first last meters =
    let more = length-more told s in
    let same : u.meters ≡ map (after_clock (length told) (pins_after pins told) (pins_of s)) t.meters =
    meters ∙ ap (λ c. map (after_clock c t.last (pins_of s)) t.meters) (sym long) ∙ ap (λ b. map (after_clock (length told) b (pins_of s)) t.meters) h.last in
    measured_by pins ends (told ++ s ∷ []) u (first ∙ h.first) (last ∙ sym (pins-more pins told s)) (omega arith)
    (ap watched same ∙ watched-told (length told) (pins_after pins told) (pins_of s) t.meters ∙ h.watches)
    (subst (AllByRecursion (λ m. Measures (ends_of m.edges) pins (told ++ s ∷ []) m)) (sym same) (all_told pins told s (omega arith) t.meters h.each))

-- a sample at a clock, after those that were told
pub told_measured : (pins : ShownPins) (ends : List SpanEdges) (told : List Sample) (t u : Meters) (s : Sample) (clock : ℕ) → clock < 2 ^ 64 → IsNext told clock
    → HasMeasured pins ends told t → u.first ≡ t.first → u.last ≡ pins_of s → u.meters ≡ map (after_clock clock t.last (pins_of s)) t.meters
    → HasMeasured pins ends (held_to clock told ++ s ∷ []) u
told_measured pins ends told t u s clock few next h first last meters =
    sample_measured pins ends (held_to clock told) t u s clock (length-held clock told next) few
    (held_measured pins ends told t clock (omega arith) next h) first last meters

-- spans and pins are known from what is told for them
pub same_rise : (a b : Bool) → rise_code a ≡ rise_code b → a ≡ b
same_rise true true h = refl
same_rise false false h = refl
same_rise true false h = absurd (omega arith)
same_rise false true h = absurd (omega arith)

pub same_signal : (a b : Option PinSignal) → signal_code a ≡ signal_code b → a ≡ b
same_signal (Some Level) (Some Level) h = refl
same_signal (Some Direction) (Some Direction) h = refl
same_signal None None h = refl
same_signal (Some Level) (Some Direction) h = absurd (omega arith)
same_signal (Some Direction) (Some Level) h = absurd (omega arith)
same_signal (Some Level) None h = absurd (omega arith)
same_signal (Some Direction) None h = absurd (omega arith)
same_signal None (Some Level) h = absurd (omega arith)
same_signal None (Some Direction) h = absurd (omega arith)

same_from : (a b : SpanEdges) → a.from_pin ≡ b.from_pin → a.from_signal ≡ b.from_signal → a.from_rise ≡ b.from_rise → a ≡ record a { from_pin = b.from_pin; from_signal = b.from_signal; from_rise = b.from_rise }
same_from a b p q r =
    let mk : ℕ → Option PinSignal → Bool → SpanEdges = λ x y z. record a { from_pin = x; from_signal = y; from_rise = z } in
    ap (λ x. mk x a.from_signal a.from_rise) p ∙ ap (λ x. mk b.from_pin x a.from_rise) q ∙ ap (λ x. mk b.from_pin b.from_signal x) r

same_to : (a b : SpanEdges) → a.to_pin ≡ b.to_pin → a.to_signal ≡ b.to_signal → a.to_rise ≡ b.to_rise → record a { from_pin = b.from_pin; from_signal = b.from_signal; from_rise = b.from_rise } ≡ b
same_to a b p q r =
    let mk : ℕ → Option PinSignal → Bool → SpanEdges = λ x y z. record b { to_pin = x; to_signal = y; to_rise = z } in
    ap (λ x. mk x a.to_signal a.to_rise) p ∙ ap (λ x. mk b.to_pin x a.to_rise) q ∙ ap (λ x. mk b.to_pin b.to_signal x) r

code_tells : (xs ys : List SpanEdges) → ends_code xs ≡ ends_code ys → xs ≡ ys
code_tells [] [] h = refl
code_tells [] (y ∷ ys) h = cc
code_tells (x ∷ xs) [] h = cc
code_tells (x ∷ xs) (y ∷ ys) h =
    let p : x.from_pin ≡ y.from_pin = cc in
    let q : signal_code x.from_signal ≡ signal_code y.from_signal = cc in
    let r : rise_code x.from_rise ≡ rise_code y.from_rise = cc in
    let s : x.to_pin ≡ y.to_pin = cc in
    let t : signal_code x.to_signal ≡ signal_code y.to_signal = cc in
    let u : rise_code x.to_rise ≡ rise_code y.to_rise = cc in
    let rest : ends_code xs ≡ ends_code ys = cc in
    let one = same_from x y p (same_signal _ _ q) (same_rise _ _ r) ∙ same_to x y s (same_signal _ _ t) (same_rise _ _ u) in
    let more = code_tells xs ys rest in
    ap (λ (e : SpanEdges). e ∷ xs) one ∙ ap (λ (es : List SpanEdges). y ∷ es) more

pub same_pins : (a b : ShownPins) → a.level ≡ b.level → a.direction ≡ b.direction → a ≡ b
same_pins a b p q =
    let mk : ℕ → ℕ → ShownPins = λ x y. record { level = x; direction = y } in
    ap (λ x. mk x a.direction) p ∙ ap (λ x. mk b.level x) q

pub tells : (pins l : ShownPins) (ends es : List SpanEdges) → first_told pins ends ≡ first_told l es → (pins ≡ l) × (ends ≡ es)
tells pins l ends es h =
    let p : pins.level ≡ l.level = cc in
    let q : pins.direction ≡ l.direction = cc in
    let r : ends_code ends ≡ ends_code es = cc in
    (same_pins pins l p q, code_tells ends es r)

map_push : {X Y : Type 0} (f : X → Y) (xs : List X) (x : X) → map f (xs ++ x ∷ []) ≡ map f xs ++ f x ∷ []
map_push f xs x = map-append f xs (x ∷ [])

-- a fresh meter more
pub more_fresh : (ms next : List Meter) (e : Edges) (m : Meter) → next ≡ ms ++ m ∷ [] → m ≡ fresh e → ms ≡ map (λ (x : Meter). fresh x.edges) ms → next ≡ map (λ (x : Meter). fresh x.edges) next
more_fresh ms next e m h k all =
    let f : Meter → Meter = λ x. fresh x.edges in
    h ∙ ap (λ x. x ++ m ∷ []) all ∙ ap (λ x. map f ms ++ x ∷ []) (k ∙ sym (ap f k)) ∙ sym (map_push f ms m) ∙ ap (map f) (sym h)

pub more_watched : (ms next : List Meter) (e : Edges) (m : Meter) (spans : List Span) (i : ℕ) (sp : Span) → next ≡ ms ++ m ∷ [] → m ≡ fresh e → ends_of e ≡ ends_in sp → sp ≡ get_or spans i sp → i < length spans
    → watched ms ≡ map ends_in (take i spans) → watched next ≡ map ends_in (take (i + 1) spans)
more_watched ms next e m spans i sp h k same at low all =
    let g : Meter → SpanEdges = λ x. ends_of x.edges in
    ap watched h ∙ map_push g ms m ∙ ap (λ x. x ++ g m ∷ []) all
    ∙ ap (λ x. map ends_in (take i spans) ++ x ∷ []) (ap g k ∙ same ∙ ap ends_in at) ∙ sym (map_more ends_in spans i sp low)

pub all_watched : (spans : List Span) (i : ℕ) → length spans ≤ i → map ends_in (take i spans) ≡ map ends_in spans
all_watched spans i h = ap (map ends_in) (take_all i spans h)

-- a map in place, at its end
pub map_done : (f : Meter → Meter) (xs ys : List Meter) (i : ℕ) → length xs ≤ i → ys ≡ map f (take i xs) ++ drop i xs → ys ≡ map f xs
map_done f xs ys i h e = e ∙ ap (λ t. map f t ++ drop i xs) (take_all i xs h) ∙ ap (λ t. map f xs ++ t) (drop_all i xs h) ∙ append-nil (map f xs)
