-- The spans of a setup are asked for a name one after the other.
use Rattle.std.proofs.Common.{◌≡◌, ◌∙◌, ℕ, zero, suc, ◌+◌, ◌<◌, ◌≤◌, arith, Bool, true, false, Option, unwrap_or, Some, None, List, [], ◌∷◌, length, drop, get_or, refl, sym, ap, cond, if◌then◌else◌}
use Rattle.std.specs.Str.{bytes_eq}
use Rattle.std.proofs.lemmas.Slice.Eq.{bytes_eq-Decides}
use Rattle.pin_matrix.specs.declared.span.Span.{Span}
use Rattle.stages.specs.Named.{named_from}

-- after the last span none is left
pub named_end : (name : List ℕ) (spans : List Span) (place from : ℕ) → length spans ≤ place → named_from from name (drop place spans) ≡ None
named_end name [] zero from le = refl
named_end name [] (suc place) from le = refl
named_end name (s ∷ spans) zero from le = absurd (omega arith)
named_end name (s ∷ spans) (suc place) from le = named_end name spans place from (omega arith)

-- the span at a place comes first of those from there on
pub named_turn : (name : List ℕ) (spans : List Span) (place from : ℕ) (sp : Span) → place < length spans → sp ≡ get_or spans place sp
    → named_from from name (drop place spans) ≡ (if bytes_eq sp.name name then Some (from, sp) else named_from (from + 1) name (drop (place + 1) spans))
named_turn name [] place from sp lt is = absurd (omega arith)
named_turn name (s ∷ spans) zero from sp lt is = ap (λ (x : Span). if bytes_eq x.name name then Some (from, x) else named_from (from + 1) name spans) (sym is)
named_turn name (s ∷ spans) (suc place) from sp lt is =
    let e : suc (place + 1) ≡ suc place + 1 = omega arith in
    named_turn name spans place from sp (omega arith) is
    ∙ ap (λ n. if bytes_eq sp.name name then Some (from, sp) else named_from (from + 1) name (drop n (s ∷ spans))) e

-- it has the name
pub named_here : (name : List ℕ) (spans : List Span) (place : ℕ) (sp : Span) (test : Bool) → place < length spans → sp ≡ get_or spans place sp → test ≡ bytes_eq sp.name name → test ≡ true
    → named_from 0 name spans ≡ named_from place name (drop place spans) → Some (place, sp) ≡ named_from 0 name spans
named_here name spans place sp test lt is tests has before =
    sym (before ∙ named_turn name spans place place sp lt is
    ∙ ap (λ (b : Bool). if b then Some (place, sp) else named_from (place + 1) name (drop (place + 1) spans)) (sym tests ∙ has))

-- it hasn't
pub named_later : (name : List ℕ) (spans : List Span) (place : ℕ) (sp : Span) (test : Bool) → place < length spans → sp ≡ get_or spans place sp → test ≡ bytes_eq sp.name name → test ≡ false
    → named_from 0 name spans ≡ named_from place name (drop place spans) → named_from 0 name spans ≡ named_from (place + 1) name (drop (place + 1) spans)
named_later name spans place sp test lt is tests has_not before =
    before ∙ named_turn name spans place place sp lt is
    ∙ ap (λ (b : Bool). if b then Some (place, sp) else named_from (place + 1) name (drop (place + 1) spans)) (sym tests ∙ has_not)

-- a span that was found has the name
pub found_named : (name : List ℕ) (spans : List Span) (from place : ℕ) (sp : Span) → Some (place, sp) ≡ named_from from name spans → sp.name ≡ name
found_named name [] from place sp e = cc
found_named name (s ∷ spans) from place sp e = go (bytes_eq s.name name) refl (found_named name spans (from + 1) place sp) e
  where
    same : (place from : ℕ) (x y : Span) → ◌≡◌ {A = Option (ℕ × Span)} (Some (place, x)) (Some (from, y)) → x ≡ y
    same place from x y e = ap (λ (o : Option (ℕ × Span)). (unwrap_or o (place, x)).1) e

    go : (b : Bool) → bytes_eq s.name name ≡ b → (Some (place, sp) ≡ named_from (from + 1) name spans → sp.name ≡ name)
        → Some (place, sp) ≡ cond b (Some (from, s)) (named_from (from + 1) name spans) → sp.name ≡ name
    go true has rest e = ap (λ (x : Span). x.name) (same place from sp s e) ∙ (bytes_eq-Decides s.name name).0 has
    go false has rest e = rest e
