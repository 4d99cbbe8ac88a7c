-- What a meter has seen, span by span.
use Rattle.std.proofs.Common.{◌≡◌, ◌∙◌, ℕ, Bool, true, false, ◌||◌, cond, List, [], ◌∷◌, length, map, refl, sym, ap, ap₂}
use Rattle.std.proofs.lemmas.List.{length-map}
use Rattle.pin_matrix.specs.declared.span.Span.{Span}
use Rattle.span_meter.specs.declared.pins.ShownPins.{ShownPins}
use Rattle.span_meter.specs.declared.seen.SeenDistances.{SeenDistances}
use Rattle.span_meter.specs.Measured.{SpanEdges, ends_in, measured, pins_in, seen_of}
use Rattle.span_meter.specs.Assumed.{spoken_seen}
use Rattle.span_meter.specs.Events.{SpanEvents, events_in, is_any_selective, is_selective, marks}
use Rattle.span_meter.specs.SeenText.{seen_line}
use Rattle.span_meter.specs.Meters.{HasMeasured, Meters, first_told, seen_so_far, watched}
use Rattle.span_meter.specs.Spoken.{spoken}
use Rattle.span_meter.specs.SpokenMeters.{HasSpoken, SpokenMeters, spoken_so_far, spoken_told}
use Rattle.dreq_pacing.specs.declared.line.Line.{Line}
use Rattle.block_core.specs.Block.{Run}
use Rattle.block_core.specs.Conduct.{conducts}
use Rattle.block_core.specs.Hosted.{samples}
use Rattle.commands.specs.declared.metered.Metered.{Metered}
use Rattle.commands.specs.Metered.{seen_of_each, seen_lines}
use Rattle.commands.specs.Tasks.{measured_text, seen_in}
use Rattle.span_meter.proofs.PlainSpans.{all_spoken, plain_assumes}
use Rattle.commands.proofs.SpanLines.{span_lines-each}

-- a fresh meter names its pins and its edges
pub names : (pins : ShownPins) (ends : List SpanEdges) (t : Meters) → HasMeasured pins ends [] t → first_told t.first (watched t.meters) ≡ first_told pins ends
names pins ends t h = ap₂ first_told h.first h.watches

-- a fresh meter of pairs spoken of names its pins and its events
pub spoken_names : (pins : ShownPins) (events : List SpanEvents) (t : SpokenMeters) → HasSpoken pins events [] t → spoken_told t.first (map events_in t.spans) ≡ spoken_told pins events
spoken_names pins events t h = ap₂ spoken_told h.first h.watches

-- what such a meter and the other say of a span
abbrev seen_spoken : Run → Span → List Line → ℕ → SeenDistances
seen_spoken start sp lines clocks = spoken_seen (events_in sp) (pins_in start.state) (conducts start lines clocks)

abbrev plain_seen : Run → Span → List Line → ℕ → SeenDistances
plain_seen start sp lines clocks = seen_of (measured (ends_in sp) (pins_in start.state) (samples start lines clocks))

-- they say the same of a span that speaks of every pair
abbrev pub MeasuresAll : Type 0
MeasuresAll = (start : Run) (sp : Span) (lines : List Line) (clocks : ℕ) → is_selective sp ≡ false
    → spoken (marks (events_in sp) 0 (pins_in start.state) (conducts start lines clocks)) ≡ measured (ends_in sp) (pins_in start.state) (samples start lines clocks)

spoken_is : MeasuresAll → (start : Run) (sp : Span) (lines : List Line) (clocks : ℕ) → seen_spoken start sp lines clocks ≡ seen_in start sp lines clocks
spoken_is same start sp lines clocks = on (is_selective sp) refl where
  on : (b : Bool) → is_selective sp ≡ b → seen_spoken start sp lines clocks ≡ cond b (seen_spoken start sp lines clocks) (plain_seen start sp lines clocks)
  on true e = refl
  on false e =
      all_spoken (events_in sp) (pins_in start.state) (conducts start lines clocks) (plain_assumes sp e) ∙ ap seen_of (same start sp lines clocks e)

each_spoken : MeasuresAll → (start : Run) (lines : List Line) (clocks : ℕ) (spans : List Span)
    → map (λ e. spoken_seen e (pins_in start.state) (conducts start lines clocks)) (map events_in spans) ≡ map (λ sp. seen_in start sp lines clocks) spans
each_spoken same start lines clocks [] = refl
each_spoken same start lines clocks (sp ∷ spans) =
    ap₂ (λ (s : SeenDistances) (rest : List SeenDistances). s ∷ rest) (spoken_is same start sp lines clocks) (each_spoken same start lines clocks spans)

or_false : (a b : Bool) → (a || b) ≡ false → (a ≡ false) × (b ≡ false)
or_false true b h = cc
or_false false b h = (refl, h)

each_plain : (start : Run) (lines : List Line) (clocks : ℕ) (spans : List Span) → is_any_selective spans ≡ false
    → map (λ e. seen_of (measured e (pins_in start.state) (samples start lines clocks))) (map ends_in spans) ≡ map (λ sp. seen_in start sp lines clocks) spans
each_plain start lines clocks [] none = refl
each_plain start lines clocks (sp ∷ spans) none =
    let parts = or_false (is_selective sp) (is_any_selective spans) none in
    let here : plain_seen start sp lines clocks ≡ seen_in start sp lines clocks =
    ap (λ (b : Bool). cond b (seen_spoken start sp lines clocks) (plain_seen start sp lines clocks)) (sym parts.0)
    in
    ap₂ (λ (s : SeenDistances) (rest : List SeenDistances). s ∷ rest) here (each_plain start lines clocks spans parts.1)

-- of a run from a start either meter says what is seen of each span
pub spoken_in_run : MeasuresAll → (start now : Run) (pins : ShownPins) (spans : List Span) (lines : List Line) (clocks : ℕ) (t : SpokenMeters) → now ≡ start → pins ≡ pins_in now.state
    → HasSpoken pins (map events_in spans) (conducts now lines clocks) t → spoken_so_far t ≡ map (λ sp. seen_in start sp lines clocks) spans
spoken_in_run same start now pins spans lines clocks t run first h =
    h.seen
    ∙ ap (λ before. map (λ e. spoken_seen e before (conducts now lines clocks)) (map events_in spans)) first
    ∙ each_spoken same now lines clocks spans
    ∙ ap (λ r. map (λ sp. seen_in r sp lines clocks) spans) run

pub plain_in_run : (start now : Run) (pins : ShownPins) (spans slice : List Span) (lines : List Line) (clocks : ℕ) (t : Meters) → now ≡ start → pins ≡ pins_in now.state → slice ≡ spans → is_any_selective slice ≡ false
    → HasMeasured pins (map ends_in spans) (samples now lines clocks) t → seen_so_far t ≡ map (λ sp. seen_in start sp lines clocks) spans
plain_in_run start now pins spans slice lines clocks t run first all none h =
    h.seen
    ∙ ap (λ before. map (λ e. seen_of (measured e before (samples now lines clocks))) (map ends_in spans)) first
    ∙ each_plain now lines clocks spans (ap is_any_selective (sym all) ∙ none)
    ∙ ap (λ r. map (λ sp. seen_in r sp lines clocks) spans) run

-- there is a measure for each span
pub as_many : (see : Span → SeenDistances) (spans slice : List Span) (t : Metered) → seen_of_each t ≡ map see spans → slice ≡ spans → length (seen_of_each t) ≡ length slice
as_many see spans slice t seen all = ap length seen ∙ length-map spans see ∙ ap length (sym all)

-- and their lines are the text
pub lines_are_text : (start : Run) (spans slice : List Span) (lines : List Line) (clocks : ℕ) (t : Metered) → seen_of_each t ≡ map (λ sp. seen_in start sp lines clocks) spans → slice ≡ spans
    → seen_lines slice (seen_of_each t) ≡ measured_text start spans lines clocks
unfolding measured_text
lines_are_text start spans slice lines clocks t seen all =
    ap₂ seen_lines all seen ∙ span_lines-each (λ sp s. seen_line sp.name s) (λ sp. seen_in start sp lines clocks) spans
