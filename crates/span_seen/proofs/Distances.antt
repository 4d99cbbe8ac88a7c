-- Each distance that a proved span measures is that of a pair of which it speaks, and so within its bounds.
use Rattle.std.proofs.Common.{◌≡◌, ℕ, zero, suc, ◌+◌, ◌-◌, ◌<◌, ◌≤◌, ◌&&◌, Bool, true, false, cond, ◌⊎◌, inl, inr, Option, Some, None, IsSome, List, [], ◌∷◌, ◌++◌, length, take, min, max, slice_index_or, refl, sym, ap, ◌∙◌, subst, arith}
use Rattle.std.specs.List.{AllByRecursion}
use Rattle.std.proofs.lemmas.List.{length-take-le}
use Rattle.pin_matrix.specs.declared.machine.MachineSetup.{MachineSetup}
use Rattle.pin_matrix.specs.declared.setup.Setup.{Setup}
use Rattle.pin_matrix.specs.declared.span.Span.{Span}
use Rattle.pin_matrix.specs.declared.span.SpanUnit.{SpanUnit}
use Rattle.pin_matrix.specs.declared.span.SpanUnit.TheVariants.{Ticks, Clocks}
use Rattle.dreq_pacing.specs.declared.line.Line.{Line}
use Rattle.block_core.specs.declared.conduct.Conduct.{Conduct}
use Rattle.block_core.specs.Block.{Run, first_run}
use Rattle.block_core.specs.Conduct.{conduct_at, conducts}
use Rattle.block_core.specs.Hosted.{host_of, hosted_at, samples}
use Rattle.span_check.specs.Holding.{Holds, IsAssumed, IsFirstToEdge, IsSpokenOf, IsUpTo}
use Rattle.span_check.specs.Marks.{Mark, is_broken, mark_of}
use Rattle.span_check.specs.Proved.{HoldsInEveryRun}
use Rattle.span_check.specs.Runs.{marks_in, state_beside}
use Rattle.span_meter.specs.declared.pins.ShownPins.{ShownPins}
use Rattle.span_meter.specs.declared.seen.SeenDistances.{SeenDistances}
use Rattle.span_meter.specs.Assumed.{assumed_up_to, marks_before, spoken_seen}
use Rattle.span_meter.specs.Events.{SpanEvents, events_in, is_cut, is_selective, marks, pins_told}
use Rattle.span_meter.specs.Measured.{ends_in, greatest_of, least_with, measured, pins_in, seen_of}
use Rattle.span_meter.specs.Spoken as spoken
use Rattle.span_meter.specs.Spoken.{AreMarksFrom, IsOfPair, IsPair, spoken}
use Rattle.span_meter.proofs.PlainSpans.{all_spoken, plain_assumes}
use Rattle.span_meter.proofs.ConductLists.{pins_before}
use Rattle.span_seen.specs.Ends.{IsAssumedUpTo}
use Rattle.span_seen.specs.Within.{IsUndisturbed, IsWithin, measured_in}
use Rattle.span_seen.proofs.Ended.{told_end}
use Rattle.span_seen.proofs.Runs.{run_told, told_mark}
use Rattle.span_seen.proofs.Telling.{IsTold}

-- what is told from a clock on
unfoldable told_from : (told : ℕ → Conduct) → (k count : ℕ) → List Conduct
told_from told k zero = []
told_from told k (suc count) = told k ∷ told_from told (suc k) count

from-push : (told : ℕ → Conduct) (k count : ℕ) → told_from told k (suc count) ≡ told_from told k count ++ told (k + count) ∷ []
unfolding told_from
from-push told k zero = ap (λ c. told c ∷ []) (let e : k ≡ k + 0 = omega arith in e)
from-push told k (suc count) =
    ap (λ xs. told k ∷ xs) (from-push told (suc k) count ∙ ap (λ c. told_from told (suc k) count ++ told c ∷ []) (let e : suc k + count ≡ k + suc count = omega arith in e))

conducts-from : (u : Setup) (lines : List Line) (n : ℕ) → conducts (first_run u) lines n ≡ told_from (conduct_at (first_run u) lines) 0 n
unfolding conducts told_from
conducts-from u lines zero = refl
conducts-from u lines (suc n) =
    let told = conduct_at (first_run u) lines in
    ap (λ xs. xs ++ told n ∷ []) (conducts-from u lines n) ∙ ap (λ c. told_from told 0 n ++ told c ∷ []) (let e : n ≡ 0 + n = omega arith in e) ∙ sym (from-push told 0 n)

-- its marks are those of the clocks
marks_from : (u : Setup) (sp : Span) (lines : List Line) (k count : ℕ)
    → AreMarksFrom (told_mark u sp lines) k (marks (events_in sp) k (pins_in (state_beside u lines k)) (told_from (conduct_at (first_run u) lines) k count))
unfolding marks told_from
marks_from u sp lines k zero = tt
marks_from u sp lines k (suc count) =
    let rest = told_from (conduct_at (first_run u) lines) (suc k) count in
    (refl, subst (λ (pins : ShownPins). AreMarksFrom (told_mark u sp lines) (suc k) (marks (events_in sp) (suc k) pins rest)) (sym (pins_before (first_run u) lines (suc k))) (marks_from u sp lines (suc k) count))

length-marks : (e : SpanEvents) (told : ℕ → Conduct) (clock k count : ℕ) (pins : ShownPins) → length (marks e clock pins (told_from told k count)) ≡ count
unfolding marks told_from
length-marks e told clock k zero pins = refl
length-marks e told clock k (suc count) pins = ap suc (length-marks e told (suc clock) (suc k) count (pins_told (told k)))

-- no clock of a pair excuses its from-event
unexcused : (cut : Bool) (m : ℕ → Mark) (t : ℕ → spoken.Mark) → ((c : ℕ) → IsTold cut (m c) (m (suc c)).excused (t c)) → (end s e : ℕ) → IsPair t end s e
    → (j c : ℕ) → c + j ≡ e → s < c → (m c).excused ≡ false
unexcused cut m t told end s e pair zero c at low =
    let here : c ≡ e = omega arith in
    (told c).free (pair.free c low (omega arith)) (inl (ap (λ k. (t k).to) here ∙ pair.to))
unexcused cut m t told end s e pair (suc j) c at low =
    (told c).free (pair.free c low (omega arith)) (inr (unexcused cut m t told end s e pair j (suc c) (omega arith) (omega arith)))

-- within some bounds
abbrev IsBetween : (min : ℕ) (max : Option ℕ) (d : ℕ) → Type 0
IsBetween min max d = (min ≤ d) × IsUpTo max d

-- nor does a line break it, where the span is cut or no line disturbs it; and X and Y are as assumed up to its end
pair_between : (unit : SpanUnit) (lo : ℕ) (hi : Option ℕ) (n end : ℕ) (cut : Bool) (m : ℕ → Mark) (t : ℕ → spoken.Mark) → unit ≡ Clocks → Holds unit lo hi m n → end ≤ n → IsAssumed m end
    → ((c : ℕ) → IsTold cut (m c) (m (suc c)).excused (t c)) → (cut ≡ true) ⊎ ((c : ℕ) → c < n → (m c).breaks ≡ false)
    → (d : ℕ) → IsOfPair t end d → IsBetween lo hi d
pair_between Ticks lo hi n end cut m t clocks holds early assumed told calm d p = cc
pair_between Clocks lo hi n end cut m t clocks holds early assumed told calm d p =
    let s = p.s in
    let e = p.e in
    let pair = p.pair in
    let long = p.long in
    let after = pair.after in
    let within = pair.within in
    let from : (m s).from ≡ true = sym (told s).from ∙ pair.from in
    let h = holds s (omega arith) from in
    let ends : IsFirstToEdge m s e = record { after = after; first = λ c low high. sym (told c).to ∙ pair.first c low high; edge = sym (told e).to ∙ pair.to } in
    let unbroken : (c : ℕ) → s < c → c < suc e → (m c).breaks ≡ false = λ c low high. by_either c low high calm in
    let speaks : IsSpokenOf Clocks m s (suc e) = record {
      free = λ c low high. unexcused cut m t told end s e pair (e - c) c (omega arith) low;
      assumed = λ f c misses low high. assumed f c misses low (omega arith);
      unbroken = unbroken;
    } in
    let least = h.least e ends (omega arith) speaks in
    let most = h.most e ends (omega arith) speaks in
    (omega arith, subst (IsUpTo hi) (let z : suc e - 1 - s ≡ d = omega arith in z) most)
  where
    by_either : (c : ℕ) → p.s < c → c < suc p.e → (cut ≡ true) ⊎ ((c : ℕ) → c < n → (m c).breaks ≡ false) → (m c).breaks ≡ false
    by_either c low high (inl cuts) = (told c).calm cuts (p.pair.free c low (omega arith))
    by_either c low high (inr undisturbed) = let within = p.pair.within in undisturbed c (omega arith)

all_between : (P Q : ℕ → Type 0) → ((d : ℕ) → P d → Q d) → (ds : List ℕ) → AllByRecursion P ds → AllByRecursion Q ds
all_between P Q f [] h = tt
all_between P Q f (d ∷ ds) h = (f d h.0, all_between P Q f ds h.1)

least_between : (lo : ℕ) (hi : Option ℕ) (d : ℕ) (ds : List ℕ) → IsBetween lo hi d → AllByRecursion (IsBetween lo hi) ds → lo ≤ least_with d ds
least_between lo hi d [] h all = h.0
least_between lo hi d (x ∷ xs) h all = let a = h.0 in let i = least_between lo hi x xs all.0 all.1 in omega arith

most_between : (lo : ℕ) (hi : Option ℕ) (ds : List ℕ) → AllByRecursion (IsBetween lo hi) ds → IsUpTo hi (greatest_of ds)
most_between lo None ds all = tt
most_between lo (Some m) [] all = omega arith
most_between lo (Some m) (x ∷ xs) all =
    let a : x ≤ m = all.0.1 in
    let i : greatest_of xs ≤ m = most_between lo (Some m) xs all.1 in omega arith

seen_between : (lo : ℕ) (hi : Option ℕ) (ds : List ℕ) → AllByRecursion (IsBetween lo hi) ds → IsWithin lo hi (seen_of ds)
seen_between lo hi [] all = record { least = λ some. absurd (omega arith); most = λ some. absurd (omega arith) }
seen_between lo hi (x ∷ xs) all = record { least = λ some. least_between lo hi x xs all.0 all.1; most = λ some. most_between lo hi (x ∷ xs) all }

breaks_mark : (sp : Span) (u : Setup) (lines : List Line) (c : ℕ) → (marks_in sp u lines c).breaks ≡ is_broken (host_of (first_run u) lines c) sp.machine
unfolding mark_of
breaks_mark sp u lines c = refl

-- what a law of span_meter says: a distance is that of a pair
abbrev pub AreOfPairs : Type 0
AreOfPairs = (at : ℕ → spoken.Mark) (ks : List spoken.Mark) → AreMarksFrom at 0 ks → AllByRecursion (IsOfPair at (length ks)) (spoken ks)

-- a span in clocks is cut, if it speaks not of every pair; else its machine is undisturbed
calm_or_cut : (u : Setup) (sp : Span) (lines : List Line) (n : ℕ) (selects : Bool) (unit : SpanUnit) → unit ≡ Clocks → (selects ≡ false → IsUndisturbed u sp lines n)
    → ((is_cut unit && selects) ≡ true) ⊎ ((c : ℕ) → c < n → (marks_in sp u lines c).breaks ≡ false)
calm_or_cut u sp lines n selects Ticks clocks calm = cc
calm_or_cut u sp lines n true Clocks clocks calm = inl refl
calm_or_cut u sp lines n false Clocks clocks calm = inr (λ c low. breaks_mark sp u lines c ∙ calm refl c low)

-- the marks before the end
marks_taken : (at : ℕ → spoken.Mark) (clock n : ℕ) (ks : List spoken.Mark) → AreMarksFrom at clock ks → AreMarksFrom at clock (take n ks)
marks_taken at clock zero ks h = tt
marks_taken at clock (suc n) [] h = tt
marks_taken at clock (suc n) (k ∷ ks) h = (h.0, marks_taken at (suc clock) n ks h.1)

marks_of_end : (at : ℕ → spoken.Mark) (end : Option ℕ) (ks : List spoken.Mark) → AreMarksFrom at 0 ks → AreMarksFrom at 0 (marks_before end ks)
marks_of_end at None ks h = h
marks_of_end at (Some end) ks h = marks_taken at 0 end ks h

-- are those of clocks in which X and Y are as assumed
record IsEarly (m : ℕ → Mark) (n end : ℕ) : Type 0 where
  within : end ≤ n
  assumed : IsAssumed m end

early_end : (m : ℕ → Mark) (n : ℕ) (end : Option ℕ) (ks : List spoken.Mark) → length ks ≡ n → IsAssumedUpTo m n end → IsEarly m n (length (marks_before end ks))
early_end m n None ks long h = subst (IsEarly m n) (sym long) (record { within = omega arith; assumed = h })
early_end m n (Some end) ks long h =
    let low = h.0 in
    let short : length (take end ks) ≡ end = length-take-le end ks (omega arith) in
    subst (IsEarly m n) (sym short) (record { within = omega arith; assumed = h.1.assumed })

all_within : AreOfPairs → (u : Setup) (sp : Span) (s : MachineSetup) → slice_index_or u.machines sp.machine None ≡ Some s → HoldsInEveryRun u sp → sp.unit ≡ Clocks → (lines : List Line) (n : ℕ)
    → (is_selective sp ≡ false → IsUndisturbed u sp lines n)
    → (end : Option ℕ) → IsAssumedUpTo (marks_in sp u lines) n end
    → IsWithin sp.min sp.max (seen_of (spoken (marks_before end (marks (events_in sp) 0 (pins_in (first_run u).state) (conducts (first_run u) lines n)))))
unfolding hosted_at
all_within pairs u sp s configured holds clocks lines n calm end assumed =
    let e = events_in sp in
    let start = pins_in (first_run u).state in
    let told = told_from (conduct_at (first_run u) lines) 0 n in
    let all = marks e 0 start told in
    let ks = marks_before end all in
    let t = told_mark u sp lines in
    let long : length all ≡ n = length-marks e (conduct_at (first_run u) lines) 0 0 n start in
    let early = early_end (marks_in sp u lines) n end all long assumed in
    let of : AllByRecursion (IsOfPair t (length ks)) (spoken ks) = pairs t ks (marks_of_end t end all (marks_from u sp lines 0 n)) in
    let between = pair_between sp.unit sp.min sp.max n (length ks) e.cut (marks_in sp u lines) t clocks (holds.beside lines n) early.within early.assumed (run_told u sp lines s configured)
    (calm_or_cut u sp lines n (is_selective sp) sp.unit clocks calm) in
    let good = seen_between sp.min sp.max (spoken ks) (all_between (IsOfPair t (length ks)) (IsBetween sp.min sp.max) between (spoken ks) of) in
    subst (λ (cs : List Conduct). IsWithin sp.min sp.max (seen_of (spoken (marks_before end (marks e 0 start cs))))) (sym (conducts-from u lines n)) good

-- the end that is told changes no distance
with_end : (lo : ℕ) (hi : Option ℕ) (end : Option ℕ) (seen : SeenDistances) → IsWithin lo hi seen → IsWithin lo hi (record seen { assumed = end })
with_end lo hi end seen h = record { least = h.least; most = h.most }

spoken_within : AreOfPairs → (u : Setup) (sp : Span) (s : MachineSetup) → slice_index_or u.machines sp.machine None ≡ Some s → HoldsInEveryRun u sp → sp.unit ≡ Clocks → (lines : List Line) (n : ℕ)
    → (is_selective sp ≡ false → IsUndisturbed u sp lines n) → IsWithin sp.min sp.max (spoken_seen (events_in sp) (pins_in (first_run u).state) (conducts (first_run u) lines n))
unfolding spoken_seen
spoken_within pairs u sp s configured holds clocks lines n calm =
    let end = assumed_up_to (events_in sp) (conducts (first_run u) lines n) in
    with_end sp.min sp.max end _ (all_within pairs u sp s configured holds clocks lines n calm end (told_end u sp lines s configured n))

-- and: a span that speaks of every pair measures them all
abbrev pub MeasuresEveryPair : Type 0
MeasuresEveryPair =
    (start : Run) (sp : Span) (lines : List Line) (n : ℕ) → is_selective sp ≡ false
    → spoken (marks (events_in sp) 0 (pins_in start.state) (conducts start lines n)) ≡ measured (ends_in sp) (pins_in start.state) (samples start lines n)

by_kind : (selects : Bool) (P : SeenDistances → Type 0) (chosen every : SeenDistances) → P chosen → (selects ≡ false → chosen ≡ every) → P (cond selects chosen every)
by_kind true P chosen every h same = h
by_kind false P chosen every h same = subst P (same refl) h

pub seen_within : AreOfPairs → MeasuresEveryPair → (u : Setup) (sp : Span) → IsSome (slice_index_or u.machines sp.machine None) → HoldsInEveryRun u sp → sp.unit ≡ Clocks → (lines : List Line) (n : ℕ)
    → (is_selective sp ≡ false → IsUndisturbed u sp lines n) → IsWithin sp.min sp.max (measured_in u sp lines n)
seen_within pairs every u sp some holds clocks lines n calm = on (slice_index_or u.machines sp.machine None) refl some where
  on : (o : Option MachineSetup) → slice_index_or u.machines sp.machine None ≡ o → IsSome o → IsWithin sp.min sp.max (measured_in u sp lines n)
  on None e h = cc
  on (Some s) e h =
      let start = first_run u in
      let told = conducts start lines n in
      by_kind (is_selective sp) (IsWithin sp.min sp.max) (spoken_seen (events_in sp) (pins_in start.state) told) (seen_of (measured (ends_in sp) (pins_in start.state) (samples start lines n)))
      (spoken_within pairs u sp s e holds clocks lines n calm)
      (λ plain. all_spoken (events_in sp) (pins_in start.state) told (plain_assumes sp plain) ∙ ap seen_of (every start sp lines n plain))
