-- A line is split at its first blank.
use Rattle.std.proofs.Common.{◌≡◌, ℕ, false, not, eqb, List, [], ◌∷◌, ◌++◌, ◌+◌, ◌<◌, ◌≤◌, length, get_or, take, drop, refl, sym, ap, subst, ◌∙◌}
use Rattle.std.specs.Prelude.{IsTrue}
use Rattle.std.specs.List.{list_all, slice_split, AllByRecursion}
use Rattle.std.proofs.lemmas.Bool.{and_parts, not-true}
use Rattle.std.proofs.lemmas.List.{at_drop_more, take-append-drop, take_all}
use Rattle.std.proofs.lemmas.List.Elements.{All-from_recursion}
use Rattle.std.proofs.lemmas.List.Splits.{slice_split_none, slice_split_at}

-- no blank is in it
abbrev pub IsField : List ℕ → Type 0
IsField line = IsTrue (list_all (λ b. not (eqb b 32)) line)

abbrev pub split : List ℕ → List (List ℕ)
split bytes = slice_split (λ b. eqb b 32) bytes

no_blank : (line : List ℕ) → IsField line → AllByRecursion (λ b. eqb b 32 ≡ false) line
no_blank [] h = tt
no_blank (b ∷ bs) h =
    let p = and_parts (not (eqb b 32)) (list_all (λ c. not (eqb c 32)) bs) h in
    (not-true (eqb b 32) p.0, no_blank bs p.1)

pub field_ends : (text : List ℕ) (i : ℕ) → i < length text → get_or text i 0 ≡ 32 → IsField (take i text) → split text ≡ take i text ∷ split (drop (i + 1) text)
field_ends text i lt e h =
    let rest : drop i text ≡ 32 ∷ drop (i + 1) text = at_drop_more (λ (xs : List ℕ). xs) text i 0 lt ∙ ap (λ (b : ℕ). b ∷ drop (i + 1) text) e in
    ap split (sym (take-append-drop i text) ∙ ap (λ (xs : List ℕ). take i text ++ xs) rest)
    ∙ slice_split_at (λ b. eqb b 32) (take i text) 32 (drop (i + 1) text) (All-from_recursion (λ b. eqb b 32 ≡ false) (take i text) (no_blank (take i text) h)) refl

pub field_last : (text : List ℕ) (i : ℕ) → length text ≤ i → IsField (take i text) → split text ≡ text ∷ []
field_last text i le h =
    let whole : IsField text = subst IsField (take_all i text le) h in
    slice_split_none (λ b. eqb b 32) text (All-from_recursion (λ b. eqb b 32 ≡ false) text (no_blank text whole))
