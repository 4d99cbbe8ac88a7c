-- A text is split at its first newline.
use Rattle.std.proofs.Common.{◌≡◌, ℕ, false, not, eqb, List, [], ◌∷◌, ◌++◌, ◌+◌, ◌<◌, ◌≤◌, length, get_or, take, drop, refl, sym, ap, subst, ◌∙◌}
use Rattle.std.specs.Prelude.{IsTrue}
use Rattle.std.specs.List.{list_all, slice_split, AllByRecursion}
use Rattle.std.proofs.lemmas.Bool.{and_parts, and_from, not-true}
use Rattle.std.proofs.lemmas.List.{at_drop_more, take-append-drop, take_all}
use Rattle.std.proofs.lemmas.List.Folds.{list_all_more}
use Rattle.std.proofs.lemmas.List.Elements.{All-from_recursion}
use Rattle.std.proofs.lemmas.List.Splits.{slice_split_none, slice_split_at}

-- no newline is in it
abbrev pub IsLine : List ℕ → Type 0
IsLine line = IsTrue (list_all (λ b. not (eqb b 10)) line)

abbrev pub split : List ℕ → List (List ℕ)
split bytes = slice_split (λ b. eqb b 10) bytes

no_newline : (line : List ℕ) → IsLine line → AllByRecursion (λ b. eqb b 10 ≡ false) line
no_newline [] h = tt
no_newline (b ∷ bs) h =
    let p = and_parts (not (eqb b 10)) (list_all (λ c. not (eqb c 10)) bs) h in
    (not-true (eqb b 10) p.0, no_newline bs p.1)

pub line_more : (text : List ℕ) (i : ℕ) → i < length text → eqb (get_or text i 0) 10 ≡ false → IsLine (take i text) → IsLine (take (i + 1) text)
line_more text i lt e h =
    list_all_more (λ b. not (eqb b 10)) text i 0 lt ∙ and_from (list_all (λ b. not (eqb b 10)) (take i text)) (not (eqb (get_or text i 0) 10)) h (ap not e)

pub line_ends : (text : List ℕ) (i : ℕ) → i < length text → get_or text i 0 ≡ 10 → IsLine (take i text) → split text ≡ take i text ∷ split (drop (i + 1) text)
line_ends text i lt e h =
    let rest : drop i text ≡ 10 ∷ drop (i + 1) text = at_drop_more (λ (xs : List ℕ). xs) text i 0 lt ∙ ap (λ (b : ℕ). b ∷ drop (i + 1) text) e in
    ap split (sym (take-append-drop i text) ∙ ap (λ (xs : List ℕ). take i text ++ xs) rest)
    ∙ slice_split_at (λ b. eqb b 10) (take i text) 10 (drop (i + 1) text) (All-from_recursion (λ b. eqb b 10 ≡ false) (take i text) (no_newline (take i text) h)) refl

pub line_last : (text : List ℕ) (i : ℕ) → length text ≤ i → IsLine (take i text) → split text ≡ text ∷ []
line_last text i le h =
    let whole : IsLine text = subst IsLine (take_all i text le) h in
    slice_split_none (λ b. eqb b 10) text (All-from_recursion (λ b. eqb b 10 ≡ false) text (no_newline text whole))
