-- What is told in a run: of no clock before it is over, and the pins of each sample.
use Rattle.std.proofs.Common.{◌≡◌, ℕ, zero, suc, ◌+◌, ◌≤◌, Bool, true, false, cond, eqb, List, [], ◌∷◌, ◌++◌, length, refl, sym, ap₂, ◌∙◌, map, arith, length-append}
use Rattle.std.proofs.lemmas.Bool.{and_parts, eqb-true, not-false, or_parts}
use Rattle.std.proofs.lemmas.List.{map-append}
use Rattle.dreq_pacing.specs.declared.line.Line.{Line}
use Rattle.dreq_pacing.specs.declared.due.Due.{Due}
use Rattle.block_core.specs.declared.conduct.Conduct.{Conduct}
use Rattle.block_core.specs.Block.{Run, next}
use Rattle.block_core.specs.Conduct.{conduct_after, conduct_at, conduct_before, conduct_in, conducts, has_new_pins, is_noted, no_conduct}
use Rattle.block_core.specs.Hosted.{host_of, hosted_at, hosted_next, sample_at, samples}
use Rattle.block_core.specs.Shown.{sample_of}
use Rattle.block_core.proofs.Runs.{clock-hosted_at}
use Rattle.span_meter.specs.declared.pins.ShownPins.{ShownPins}
use Rattle.span_meter.specs.Events.{pins_told}
use Rattle.span_meter.specs.Measured.{pins_in, pins_of}
use Rattle.span_meter.specs.SpokenMeters.{AreTimely}

-- after a clock it is that clock, or what was told before
clock_by : (b : Bool) (now last : Conduct) (most : ℕ) → now.clock ≤ most → last.clock ≤ most → (cond b now last).clock ≤ most
clock_by true now last most h k = h
clock_by false now last most h k = k

clock_after : (start : Run) (lines : List Line) (n : ℕ) (last : Conduct) → last.clock ≤ start.clock + n → (conduct_after (host_of start lines n) (hosted_at start lines n).run last).clock ≤ start.clock + n
unfolding conduct_in
clock_after start lines n last le =
    let d = host_of start lines n in
    let r = (hosted_at start lines n).run in
    let at = clock-hosted_at start lines n in
    clock_by (is_noted d r) (conduct_in d r) last (start.clock + n) (omega (arith, at)) le

pub clock_at : (start : Run) (lines : List Line) (n : ℕ) → (conduct_at start lines n).clock ≤ start.clock + n
unfolding conduct_before no_conduct
clock_at start lines zero = clock_after start lines 0 (no_conduct start) (omega arith)
clock_at start lines (suc n) = let l = clock_at start lines n in clock_after start lines (suc n) (conduct_at start lines n) (omega arith)

pub length-conducts : (start : Run) (lines : List Line) (n : ℕ) → length (conducts start lines n) ≡ n
unfolding conducts
length-conducts start lines zero = refl
length-conducts start lines (suc n) = let l = length-conducts start lines n in omega (arith, l, length-append (conducts start lines n) (conduct_at start lines n ∷ []))

timely_more : (k : ℕ) (xs : List Conduct) (c : Conduct) → AreTimely k xs → c.clock ≤ k + length xs → AreTimely k (xs ++ c ∷ [])
timely_more k [] c h le = (omega arith, tt)
timely_more k (x ∷ xs) c h le = (h.0, timely_more (suc k) xs c h.1 (omega arith))

pub timely_conducts : (start : Run) (lines : List Line) (n : ℕ) → start.clock ≡ 0 → AreTimely 0 (conducts start lines n)
unfolding conducts
timely_conducts start lines zero fresh = tt
timely_conducts start lines (suc n) fresh =
    let l = length-conducts start lines n in
    let at = clock_at start lines n in
    timely_more 0 (conducts start lines n) (conduct_at start lines n) (timely_conducts start lines n fresh) (omega arith)

-- the pins that are told are those after the clock
pub kept_pins : (d : Due) (r : Run) → is_noted d r ≡ false → pins_in r.state ≡ pins_in (next d r).state
unfolding is_noted
kept_pins d r calm =
    let after = (next d r).state in
    let halves = or_parts _ (has_new_pins r.state after) calm in
    let parts = and_parts (eqb r.state.levels after.levels) (eqb r.state.directions after.directions) (not-false _ halves.1) in
    let mk : ℕ → ℕ → ShownPins = λ x y. record { level = x; direction = y } in
    ap₂ mk (eqb-true r.state.levels after.levels parts.0) (eqb-true r.state.directions after.directions parts.1)

pins_after : (d : Due) (r : Run) (last : Conduct) → pins_told last ≡ pins_in r.state → pins_told (conduct_after d r last) ≡ pins_in (next d r).state
unfolding conduct_in
pins_after d r last before = on (is_noted d r) refl where
  on : (b : Bool) → is_noted d r ≡ b → pins_told (cond b (conduct_in d r) last) ≡ pins_in (next d r).state
  on true e = refl
  on false e = before ∙ kept_pins d r e

pub pins_before : (start : Run) (lines : List Line) (n : ℕ) → pins_told (conduct_before start lines n) ≡ pins_in (hosted_at start lines n).run.state
unfolding conduct_before no_conduct hosted_at hosted_next
pins_before start lines zero = refl
pins_before start lines (suc n) = pins_after (host_of start lines n) (hosted_at start lines n).run (conduct_before start lines n) (pins_before start lines n)

pins_at : (start : Run) (lines : List Line) (n : ℕ) → pins_told (conduct_at start lines n) ≡ pins_of (sample_at start lines n)
unfolding sample_of
pins_at start lines n = pins_before start lines (suc n)

pub same_pins : (start : Run) (lines : List Line) (n : ℕ) → map pins_told (conducts start lines n) ≡ map pins_of (samples start lines n)
unfolding conducts samples
same_pins start lines zero = refl
same_pins start lines (suc n) =
    map-append pins_told (conducts start lines n) (conduct_at start lines n ∷ [])
    ∙ ap₂ (λ (xs : List ShownPins) (p : ShownPins). xs ++ p ∷ []) (same_pins start lines n) (pins_at start lines n)
    ∙ sym (map-append pins_of (samples start lines n) (sample_at start lines n ∷ []))
