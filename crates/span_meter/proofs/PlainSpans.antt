-- A span that speaks of every pair measures the same by what the machines did as by the samples.
use Rattle.std.proofs.Common.{◌≡◌, ℕ, suc, Bool, true, false, not, ◌&&◌, ◌||◌, cond, ◌==◌, Option, Some, None, List, [], ◌∷◌, length, refl, sym, ap, ◌∙◌, map, arith}
use Rattle.std.proofs.lemmas.Bool.{eqb-true, or_parts, and_right, not-false}
use Rattle.std.specs.Option.{option_map}
use Rattle.pin_matrix.specs.Pins.{is_high}
use Rattle.pin_matrix.specs.declared.span.PinSignal.{PinSignal}
use Rattle.pin_matrix.specs.declared.span.Span.{Span}
use Rattle.dreq_pacing.specs.declared.line.Line.{Line}
use Rattle.block_core.specs.declared.conduct.Conduct.{Conduct}
use Rattle.block_core.specs.declared.conduct.MachineConduct.{MachineConduct}
use Rattle.block_core.specs.declared.sample.Sample.{Sample}
use Rattle.block_core.specs.Block.{Run}
use Rattle.block_core.specs.Conduct.{conducts}
use Rattle.block_core.specs.Edges.{has_edge}
use Rattle.block_core.specs.Hosted.{samples}
use Rattle.span_meter.specs.declared.pins.ShownPins.{ShownPins}
use Rattle.span_meter.specs.declared.seen.SeenDistances.{SeenDistances}
use Rattle.span_meter.specs.declared.assumed.Assumed.{Assumed}
use Rattle.span_meter.specs.Assumed.{assumed_after, assumed_from, assumed_up_to, assumed_where, end_before, ends_before, is_over_before, marks_before, misses, not_before, nothing_missed, spoken_seen}
use Rattle.span_meter.specs.Events.{SpanEvent, SpanEvents, assumes, comes, conduct_of, events_in, is_cut, is_dropped, is_none, is_one_of, is_selective, mark_of, marks, pins_told}
use Rattle.span_meter.specs.Measured.{clocks_to, ends_in, is_from, is_to, measured, pins_in, pins_of, seen_of, signal_of, with_distance}
use Rattle.span_meter.specs.Spoken.{clocks_to_spoken, spoken}
use Rattle.span_meter.proofs.ConductLists.{same_pins}
use Rattle.span_meter.proofs.Telling.{no_change}

-- what such a span names
record IsPlain (sp : Span) : Type 0 where
  prompt : sp.prompt ≡ false
  without : sp.without ≡ []
  from : sp.from_at ≡ []
  to : sp.to_at ≡ []
  assumes : sp.assume ≡ []
  cut : (events_in sp).cut ≡ false

none_named : {A : Type 0} (xs : List A) → (length xs == 0) ≡ true → xs ≡ []
none_named [] h = refl
none_named (x ∷ xs) h = let z = eqb-true (length (x ∷ xs)) 0 h in absurd (omega arith)

is_plain : (sp : Span) → is_selective sp ≡ false → IsPlain sp
is_plain sp h =
    let both = or_parts ((sp.prompt || not (is_none sp.without)) || (not (is_none sp.from_at) || not (is_none sp.to_at))) (assumes sp) h in
    let halves = or_parts (sp.prompt || not (is_none sp.without)) (not (is_none sp.from_at) || not (is_none sp.to_at)) both.0 in
    let speaks = or_parts sp.prompt (not (is_none sp.without)) halves.0 in
    let ends = or_parts (not (is_none sp.from_at)) (not (is_none sp.to_at)) halves.1 in
    record {
      prompt = speaks.0;
      without = none_named sp.without (not-false _ speaks.1);
      from = none_named sp.from_at (not-false _ ends.0);
      to = none_named sp.to_at (not-false _ ends.1);
      assumes = none_named sp.assume (not-false _ both.1);
      cut = and_right (is_cut sp.unit) (is_selective sp) h;
    }

-- nothing drops the from-events before
none_drops : (waits comes x y : Bool) → ((waits && (false && x)) || ((comes && false) || (false && y))) ≡ false
none_drops true true x y = refl
none_drops true false x y = refl
none_drops false true x y = refl
none_drops false false x y = refl

plain_drops : (sp : Span) → IsPlain sp → (m : Option MachineConduct) → is_dropped (events_in sp) m ≡ false
plain_drops sp p None = refl
plain_drops sp p (Some m) =
    let stays = not (is_one_of sp.stalls m.pc) in
    ap (λ (b : Bool). (m.waits && (b && stays)) || ((m.comes && is_one_of sp.without m.pc) || ((events_in sp).cut && m.breaks))) p.prompt
    ∙ ap (λ (w : List ℕ). (m.waits && (false && stays)) || ((m.comes && is_one_of w m.pc) || ((events_in sp).cut && m.breaks))) p.without
    ∙ ap (λ (b : Bool). (m.waits && (false && stays)) || ((m.comes && false) || (b && m.breaks))) p.cut
    ∙ none_drops m.waits m.comes stays m.breaks

-- an event that names no instruction is an edge
and_true : (b : Bool) → (b && true) ≡ b
and_true true = refl
and_true false = refl

and_none : (b : Bool) → (b && false) ≡ false
and_none true = refl
and_none false = refl

no_finish : (m : Option MachineConduct) → (pin : ℕ) (rise : Bool) → (before after : ShownPins) → comes (record { pin = pin; signal = None; rise = rise; at = [] }) before after m ≡ false
no_finish None pin rise before after = refl
no_finish (Some m) pin rise before after = and_none m.finishes

edge_alone : (pin : ℕ) (signal : Option PinSignal) (rise : Bool) (before after : ShownPins) (m : Option MachineConduct)
    → comes (record { pin = pin; signal = signal; rise = rise; at = [] }) before after m ≡ has_edge pin rise (signal_of signal before) (signal_of signal after)
edge_alone pin None rise before after m = no_finish m pin rise before after ∙ sym (no_change rise (is_high 0 pin))
edge_alone pin (Some s) rise before after m = and_true (has_edge pin rise (signal_of (Some s) before) (signal_of (Some s) after))

plain_from : (sp : Span) → IsPlain sp → (before after : ShownPins) (m : Option MachineConduct) → comes (events_in sp).from before after m ≡ is_from (ends_in sp) before after
plain_from sp p before after m =
    let of : List ℕ → SpanEvent = λ at. record { pin = sp.from_pin; signal = sp.from_signal; rise = sp.from_rise; at = at } in
    ap (λ (at : List ℕ). comes (of at) before after m) p.from ∙ edge_alone sp.from_pin sp.from_signal sp.from_rise before after m

plain_to : (sp : Span) → IsPlain sp → (before after : ShownPins) (m : Option MachineConduct) → comes (events_in sp).to before after m ≡ is_to (ends_in sp) before after
plain_to sp p before after m =
    let of : List ℕ → SpanEvent = λ at. record { pin = sp.to_pin; signal = sp.to_signal; rise = sp.to_rise; at = at } in
    ap (λ (at : List ℕ). comes (of at) before after m) p.to ∙ edge_alone sp.to_pin sp.to_signal sp.to_rise before after m

plain_clocks : (sp : Span) → IsPlain sp → (clock : ℕ) (before : ShownPins) (cs : List Conduct) (ss : List Sample) → map pins_told cs ≡ map pins_of ss
    → clocks_to_spoken (marks (events_in sp) clock before cs) ≡ clocks_to (ends_in sp) before ss
unfolding marks clocks_to_spoken clocks_to
plain_clocks sp p clock before [] [] h = refl
plain_clocks sp p clock before [] (s ∷ ss) h = cc
plain_clocks sp p clock before (c ∷ cs) [] h = cc
plain_clocks sp p clock before (c ∷ cs) (s ∷ ss) h =
    let e = events_in sp in
    let ends = ends_in sp in
    let here : pins_told c ≡ pins_of s = cc in
    let later : map pins_told cs ≡ map pins_of ss = cc in
    let m = conduct_of clock sp.machine c in
    let rest = clocks_to_spoken (marks e (suc clock) (pins_told c) cs) in
    ap (λ (b : Bool). cond b None (cond (mark_of e clock before c).to (Some 0) (option_map suc rest))) (plain_drops sp p m)
    ∙ ap (λ (b : Bool). cond b (Some 0) (option_map suc rest)) (plain_to sp p before (pins_told c) m)
    ∙ ap (λ (o : Option ℕ). cond (is_to ends before (pins_told c)) (Some 0) (option_map suc o)) (plain_clocks sp p (suc clock) (pins_told c) cs ss later)
    ∙ ap (λ (v : ShownPins). cond (is_to ends before v) (Some 0) (option_map suc (clocks_to ends v ss))) here

plain_pairs : (sp : Span) → IsPlain sp → (clock : ℕ) (before : ShownPins) (cs : List Conduct) (ss : List Sample) → map pins_told cs ≡ map pins_of ss
    → spoken (marks (events_in sp) clock before cs) ≡ measured (ends_in sp) before ss
unfolding marks spoken measured
plain_pairs sp p clock before [] [] h = refl
plain_pairs sp p clock before [] (s ∷ ss) h = cc
plain_pairs sp p clock before (c ∷ cs) [] h = cc
plain_pairs sp p clock before (c ∷ cs) (s ∷ ss) h =
    let e = events_in sp in
    let ends = ends_in sp in
    let here : pins_told c ≡ pins_of s = cc in
    let later : map pins_told cs ≡ map pins_of ss = cc in
    let m = conduct_of clock sp.machine c in
    let rest = marks e (suc clock) (pins_told c) cs in
    ap (λ (b : Bool). cond b (with_distance (clocks_to_spoken rest) (spoken rest)) (spoken rest)) (plain_from sp p before (pins_told c) m)
    ∙ ap (λ (o : Option ℕ). cond (is_from ends before (pins_told c)) (with_distance o (spoken rest)) (spoken rest)) (plain_clocks sp p (suc clock) (pins_told c) cs ss later)
    ∙ ap (λ (ds : List ℕ). cond (is_from ends before (pins_told c)) (with_distance (clocks_to ends (pins_told c) ss) ds) ds) (plain_pairs sp p (suc clock) (pins_told c) cs ss later)
    ∙ ap (λ (v : ShownPins). cond (is_from ends before v) (with_distance (clocks_to ends v ss) (measured ends v ss)) (measured ends v ss)) here

pub plain_measures : (start : Run) (sp : Span) (lines : List Line) (clocks : ℕ) → is_selective sp ≡ false
    → spoken (marks (events_in sp) 0 (pins_in start.state) (conducts start lines clocks)) ≡ measured (ends_in sp) (pins_in start.state) (samples start lines clocks)
plain_measures start sp lines clocks h = plain_pairs sp (is_plain sp h) 0 (pins_in start.state) (conducts start lines clocks) (samples start lines clocks) (same_pins start lines clocks)

-- nothing is missed where nothing is assumed
no_miss : (a b : Bool) → a ≡ false → (a || (b && false)) ≡ false
no_miss true b h = cc
no_miss false true h = refl
no_miss false false h = refl

none_where : (clock : ℕ) (m : Option MachineConduct) (a : Assumed) → a.missed ≡ false → (assumed_where [] clock m a).missed ≡ false
none_where clock None a h = h
none_where clock (Some m) a h = on (is_over_before clock a) where
  on : (b : Bool) → (cond {A = Assumed} b a (record { missed = a.missed || misses [] m; rests = not_before clock m.rests })).missed ≡ false
  on true = h
  on false = no_miss a.missed m.finishes h

none_missed : (e : SpanEvents) → e.assume ≡ [] → (clock : ℕ) (a : Assumed) (told : List Conduct) → a.missed ≡ false → (assumed_from e clock a told).missed ≡ false
unfolding assumed_from
none_missed e none clock a [] h = h
none_missed e none clock a (c ∷ rest) h =
    none_missed e none (suc clock) (assumed_after e clock c a) rest
    (ap (λ assume. (assumed_where assume clock (conduct_of clock e.machine c) a).missed) none ∙ none_where clock (conduct_of clock e.machine c) a h)

no_end : (clock : ℕ) (a : Assumed) → a.missed ≡ false → end_before clock a ≡ None
no_end clock a h = ap (λ (b : Bool). cond {A = Option ℕ} (b && ends_before clock a.rests) a.rests None) h

-- A span that assumes nothing has no end, and measures all pairs of which it speaks.
pub plain_assumes : (sp : Span) → is_selective sp ≡ false → sp.assume ≡ []
plain_assumes sp h = (is_plain sp h).assumes

pub no_assumption : (e : SpanEvents) (told : List Conduct) → e.assume ≡ [] → assumed_up_to e told ≡ None
unfolding assumed_up_to
no_assumption e told none = no_end (length told) (assumed_from e 0 nothing_missed told) (none_missed e none 0 nothing_missed told refl)

pub all_spoken : (e : SpanEvents) (pins : ShownPins) (told : List Conduct) → e.assume ≡ [] → spoken_seen e pins told ≡ seen_of (spoken (marks e 0 pins told))
unfolding spoken_seen
all_spoken e pins told none =
    ap (λ (end : Option ℕ). let s : SeenDistances = record (seen_of (spoken (marks_before end (marks e 0 pins told)))) { assumed = end } in s) (no_assumption e told none)
