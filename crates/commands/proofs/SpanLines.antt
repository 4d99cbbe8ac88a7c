-- The lines of spans, one after the other.
use Rattle.std.proofs.Common.{◌≡◌, ◌∙◌, ℕ, zero, suc, ◌+◌, ◌++◌, ◌<◌, ◌≤◌, arith, Some, Result, List, [], ◌∷◌, length, drop, get_or, map, refl, sym, ap}
use Rattle.std.specs.List.{flat_map, slice_get}
use Rattle.pin_matrix.specs.declared.setup.Setup.{Setup}
use Rattle.pin_matrix.specs.declared.span.Span.{Span}
use Rattle.span_texts.specs.declared.refusal.Finding.{Finding}
use Rattle.span_texts.specs.declared.refusal.Refusal.{Refusal}
use Rattle.stages.specs.Spans.{AreVerdicts, span_lines}

-- there is a verdict on each
pub as_many : (u : Setup) (spans : List Span) (found : List (Result Finding Refusal)) → AreVerdicts u spans found → length found ≡ length spans
as_many u [] [] h = refl
as_many u [] (g ∷ found) h = absurd h
as_many u (s ∷ spans) [] h = absurd h
as_many u (s ∷ spans) (g ∷ found) h = ap suc (as_many u spans found h.1)

-- after the last span no line is left
pub span_lines-end : {X : Type 0} (line : Span → X → List ℕ) (spans : List Span) (xs : List X) (place : ℕ) → length spans ≤ place
    → span_lines line (drop place spans) (drop place xs) ≡ []
unfolding span_lines
span_lines-end line [] xs zero le = refl
span_lines-end line [] xs (suc place) le = refl
span_lines-end line (s ∷ spans) xs zero le = absurd (omega arith)
span_lines-end {X} line (s ∷ spans) [] (suc place) le = none_left (drop place spans)
  where
    none_left : (l : List Span) → span_lines {X = X} line l [] ≡ []
    none_left [] = refl
    none_left (x ∷ l) = refl
span_lines-end line (s ∷ spans) (x ∷ xs) (suc place) le = span_lines-end line spans xs place (omega arith)

-- the lines from a place on are its own and those after it
pub span_lines-turn : {X : Type 0} (line : Span → X → List ℕ) (spans : List Span) (xs : List X) (place : ℕ) (sp : Span) (x : X) → place < length spans
    → sp ≡ get_or spans place sp → slice_get xs place ≡ Some x
    → span_lines line (drop place spans) (drop place xs) ≡ line sp x ++ span_lines line (drop (place + 1) spans) (drop (place + 1) xs)
unfolding span_lines
span_lines-turn line [] xs place sp x lt is has = absurd (omega arith)
span_lines-turn line (s ∷ spans) [] place sp x lt is has = cc
span_lines-turn {X} line (s ∷ spans) (y ∷ xs) zero sp x lt is has =
    let same : y ≡ x = cc in
    ap (λ (t : Span). line t y ++ span_lines line spans xs) (sym is) ∙ ap (λ (z : X). line sp z ++ span_lines line spans xs) same
span_lines-turn line (s ∷ spans) (y ∷ xs) (suc place) sp x lt is has =
    let e : suc (place + 1) ≡ suc place + 1 = omega arith in
    span_lines-turn line spans xs place sp x (omega arith) is has
    ∙ ap (λ n. line sp x ++ span_lines line (drop n (s ∷ spans)) (drop n (y ∷ xs))) e

-- the lines of what is made of each span
pub span_lines-each : {X : Type 0} (line : Span → X → List ℕ) (make : Span → X) (spans : List Span)
    → span_lines line spans (map make spans) ≡ flat_map (λ sp. line sp (make sp)) spans
unfolding span_lines
span_lines-each line make [] = refl
span_lines-each line make (sp ∷ spans) = ap (λ rest. line sp (make sp) ++ rest) (span_lines-each line make spans)
