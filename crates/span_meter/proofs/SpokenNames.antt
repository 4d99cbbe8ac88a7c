-- Spans and pins are known from what a meter names for them.
use Rattle.std.proofs.Common.{◌≡◌, ℕ, suc, Bool, List, [], ◌∷◌, refl, ap, ◌∙◌, arith}
use Rattle.pin_matrix.specs.declared.span.PinSignal.{PinSignal}
use Rattle.std.specs.Prelude.{Option, Some, None}
use Rattle.pin_matrix.specs.declared.assume.Assumption.{Assumption}
use Rattle.pin_matrix.specs.declared.assume.Range.{Range}
use Rattle.span_meter.specs.declared.pins.ShownPins.{ShownPins}
use Rattle.span_meter.specs.Events.{SpanEvent, SpanEvents}
use Rattle.span_meter.specs.Meters.{rise_code, signal_code}
use Rattle.span_meter.specs.SpokenMeters.{addresses_code, assume_code, event_code, events_code, range_code, spoken_told}
use Rattle.span_meter.proofs.Telling.{same_pins, same_rise, same_signal}

addresses_tell : (xs ys more rest : List ℕ) → addresses_code xs more ≡ addresses_code ys rest → (xs ≡ ys) × (more ≡ rest)
addresses_tell [] [] more rest h = (refl, cc)
addresses_tell [] (y ∷ ys) more rest h = let z : 0 ≡ suc y = cc in absurd (omega arith)
addresses_tell (x ∷ xs) [] more rest h = let z : suc x ≡ 0 = cc in absurd (omega arith)
addresses_tell (x ∷ xs) (y ∷ ys) more rest h =
    let head : suc x ≡ suc y = cc in
    let tail : addresses_code xs more ≡ addresses_code ys rest = cc in
    let one : x ≡ y = omega arith in
    let told = addresses_tell xs ys more rest tail in
    (ap (λ n. n ∷ xs) one ∙ ap (λ ns. y ∷ ns) told.0, told.1)

same_event : (a b : SpanEvent) → a.pin ≡ b.pin → a.signal ≡ b.signal → a.rise ≡ b.rise → a.at ≡ b.at → a ≡ b
same_event a b p s r t =
    let mk : ℕ → Option PinSignal → Bool → List ℕ → SpanEvent = λ pin signal rise at. record { pin = pin; signal = signal; rise = rise; at = at } in
    ap (λ x. mk x a.signal a.rise a.at) p ∙ ap (λ x. mk b.pin x a.rise a.at) s ∙ ap (λ x. mk b.pin b.signal x a.at) r ∙ ap (λ x. mk b.pin b.signal b.rise x) t

event_tells : (a b : SpanEvent) (more rest : List ℕ) → event_code a more ≡ event_code b rest → (a ≡ b) × (more ≡ rest)
event_tells a b more rest h =
    let p : a.pin ≡ b.pin = cc in
    let s : signal_code a.signal ≡ signal_code b.signal = cc in
    let r : rise_code a.rise ≡ rise_code b.rise = cc in
    let t : addresses_code a.at more ≡ addresses_code b.at rest = cc in
    let told = addresses_tell a.at b.at more rest t in
    (same_event a b p (same_signal _ _ s) (same_rise _ _ r) told.0, told.1)

same_range : (r s : Range) → r.lo ≡ s.lo → r.hi ≡ s.hi → r ≡ s
same_range r s lo hi =
    let mk : ℕ → ℕ → Range = λ x y. record { lo = x; hi = y } in
    ap (λ x. mk x r.hi) lo ∙ ap (mk s.lo) hi

range_tells : (r s : Option Range) (more rest : List ℕ) → range_code r more ≡ range_code s rest → (r ≡ s) × (more ≡ rest)
range_tells None None more rest h = (refl, cc)
range_tells None (Some s) more rest h = let z : 0 ≡ suc s.lo = cc in absurd (omega arith)
range_tells (Some r) None more rest h = let z : suc r.lo ≡ 0 = cc in absurd (omega arith)
range_tells (Some r) (Some s) more rest h =
    let lo : suc r.lo ≡ suc s.lo = cc in
    let hi : r.hi ≡ s.hi = cc in
    (ap Some (same_range r s (omega arith) hi), cc)

same_assumption : (a b : Assumption) → a.address ≡ b.address → a.x ≡ b.x → a.y ≡ b.y → a ≡ b
same_assumption a b address x y =
    let mk : ℕ → Option Range → Option Range → Assumption = λ p q r. record { address = p; x = q; y = r } in
    ap (λ p. mk p a.x a.y) address ∙ ap (λ q. mk b.address q a.y) x ∙ ap (mk b.address b.x) y

assume_tells : (xs ys : List Assumption) (more rest : List ℕ) → assume_code xs more ≡ assume_code ys rest → (xs ≡ ys) × (more ≡ rest)
assume_tells [] [] more rest h = (refl, cc)
assume_tells [] (y ∷ ys) more rest h = let z : 0 ≡ suc y.address = cc in absurd (omega arith)
assume_tells (x ∷ xs) [] more rest h = let z : suc x.address ≡ 0 = cc in absurd (omega arith)
assume_tells (a ∷ xs) (b ∷ ys) more rest h =
    let head : suc a.address ≡ suc b.address = cc in
    let tail : range_code a.x (range_code a.y (assume_code xs more)) ≡ range_code b.x (range_code b.y (assume_code ys rest)) = cc in
    let x = range_tells a.x b.x _ _ tail in
    let y = range_tells a.y b.y _ _ x.1 in
    let told = assume_tells xs ys more rest y.1 in
    (ap (λ (c : Assumption). c ∷ xs) (same_assumption a b (omega arith) x.0 y.0) ∙ ap (λ (cs : List Assumption). b ∷ cs) told.0, told.1)

same_span : (a b : SpanEvents) → a.machine ≡ b.machine → a.prompt ≡ b.prompt → a.cut ≡ b.cut → a.stalls ≡ b.stalls → a.without ≡ b.without → a.from ≡ b.from → a.to ≡ b.to → a.assume ≡ b.assume → a ≡ b
same_span a b m p c s w f t g =
    let mk : ℕ → Bool → Bool → List ℕ → List ℕ → SpanEvent → SpanEvent → List Assumption → SpanEvents =
    λ machine prompt cut stalls without from to assume.
    record { machine = machine; from = from; to = to; prompt = prompt; stalls = stalls; without = without; cut = cut; assume = assume }
    in
    ap (λ x. mk x a.prompt a.cut a.stalls a.without a.from a.to a.assume) m
    ∙ ap (λ x. mk b.machine x a.cut a.stalls a.without a.from a.to a.assume) p
    ∙ ap (λ x. mk b.machine b.prompt x a.stalls a.without a.from a.to a.assume) c
    ∙ ap (λ x. mk b.machine b.prompt b.cut x a.without a.from a.to a.assume) s
    ∙ ap (λ x. mk b.machine b.prompt b.cut b.stalls x a.from a.to a.assume) w
    ∙ ap (λ x. mk b.machine b.prompt b.cut b.stalls b.without x a.to a.assume) f
    ∙ ap (λ x. mk b.machine b.prompt b.cut b.stalls b.without b.from x a.assume) t
    ∙ ap (λ x. mk b.machine b.prompt b.cut b.stalls b.without b.from b.to x) g

spans_tell : (xs ys : List SpanEvents) → events_code xs ≡ events_code ys → xs ≡ ys
spans_tell [] [] h = refl
spans_tell [] (y ∷ ys) h = cc
spans_tell (x ∷ xs) [] h = cc
spans_tell (x ∷ xs) (y ∷ ys) h =
    let m : x.machine ≡ y.machine = cc in
    let p : rise_code x.prompt ≡ rise_code y.prompt = cc in
    let c : rise_code x.cut ≡ rise_code y.cut = cc in
    let all : addresses_code x.stalls (addresses_code x.without (event_code x.from (event_code x.to (assume_code x.assume (events_code xs)))))
    ≡ addresses_code y.stalls (addresses_code y.without (event_code y.from (event_code y.to (assume_code y.assume (events_code ys))))) = cc in
    let s = addresses_tell x.stalls y.stalls _ _ all in
    let w = addresses_tell x.without y.without _ _ s.1 in
    let f = event_tells x.from y.from _ _ w.1 in
    let t = event_tells x.to y.to _ _ f.1 in
    let g = assume_tells x.assume y.assume _ _ t.1 in
    let one = same_span x y m (same_rise _ _ p) (same_rise _ _ c) s.0 w.0 f.0 t.0 g.0 in
    ap (λ (e : SpanEvents). e ∷ xs) one ∙ ap (λ (es : List SpanEvents). y ∷ es) (spans_tell xs ys g.1)

pub names_tell : (pins first : ShownPins) (events es : List SpanEvents) → spoken_told pins events ≡ spoken_told first es → (pins ≡ first) × (events ≡ es)
names_tell pins first events es h =
    let p : pins.level ≡ first.level = cc in
    let q : pins.direction ≡ first.direction = cc in
    let r : events_code events ≡ events_code es = cc in
    (same_pins pins first p q, spans_tell events es r)
