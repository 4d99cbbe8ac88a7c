-- Looking a name up in a list of entries, one entry at a time.
use Rattle.std.proofs.Common.{◌≡◌, ℕ, true, false, Some, List, ◌∷◌, ap, sym, ◌∙◌, cond}
use Rattle.std.specs.Ordering.{nat_cmp}
use Rattle.std.specs.Str.{bytes_eq}
use Rattle.std.specs.Cmp.Lexicographic.{slice_cmp}
use Rattle.std.specs.FinMap.{find}
use Rattle.std.proofs.lemmas.Map.Text.{is_eq-slice_cmp}

-- the first entry has the name
pub find-here : (q k v : List ℕ) (es : List (List ℕ × List ℕ)) → true ≡ bytes_eq q k → find (slice_cmp nat_cmp) q ((k, v) ∷ es) ≡ Some v
find-here q k v es h = ap (λ b. cond b (Some v) (find (slice_cmp nat_cmp) q es)) (is_eq-slice_cmp q k ∙ sym h)

-- the first entry has another name
pub find-later : (q k v : List ℕ) (es : List (List ℕ × List ℕ)) → false ≡ bytes_eq q k → find (slice_cmp nat_cmp) q ((k, v) ∷ es) ≡ find (slice_cmp nat_cmp) q es
find-later q k v es h = ap (λ b. cond b (Some v) (find (slice_cmp nat_cmp) q es)) (is_eq-slice_cmp q k ∙ sym h)
