-- Marks, seen as entries.
use Rattle.std.proofs.Common.{◌≡◌, ℕ, ◌<◌, ◌≤◌, List, [], ◌∷◌, ◌++◌, map, length, set, ap, ◌∙◌, arith}
use Rattle.std.proofs.lemmas.List.{map-append, length-map, map-set}
use Rattle.span_bounds.specs.declared.entry.Entry.TheVariants as entry
use Rattle.span_bounds.specs.declared.marks.ContextMark.{ContextMark}
use Rattle.span_bounds.specs.declared.marks.ContextMark.TheVariants.{Absent}
use Rattle.span_bounds.specs.Edges.{marked_out}
use Rattle.span_bounds.specs.Marks.{marked}
use Rattle.span_bounds.proofs.Prefix.{written, length-written, written_more, written-set}

-- writing that there is no row leaves the marks
pub marked_pushed : (n : ℕ) (ms new : List ContextMark) → new ≡ ms ++ Absent ∷ [] → length ms < n → marked_out n new ≡ marked_out n ms
marked_pushed n ms new e l =
    let short : length (map marked ms) < n = omega (arith, length-map ms marked) in
    ap (λ ks. marked_out n ks) e ∙ ap (written entry.Absent n) (map-append marked ms (Absent ∷ [])) ∙ written_more entry.Absent n (map marked ms) short

-- a mark is written anew
pub marked-set : (n : ℕ) (ms : List ContextMark) (i : ℕ) (m : ContextMark) → i < length ms → marked_out n (set ms i m) ≡ set (marked_out n ms) i (marked m)
marked-set n ms i m l =
    let inside : i < length (map marked ms) = omega (arith, length-map ms marked) in
    ap (written entry.Absent n) (map-set marked ms i m) ∙ written-set entry.Absent n (map marked ms) i (marked m) inside

-- how many there are
pub length-marked : (n : ℕ) (ms : List ContextMark) → length ms ≤ n → length (marked_out n ms) ≡ n
length-marked n ms l =
    let short : length (map marked ms) ≤ n = omega (arith, length-map ms marked) in
    length-written entry.Absent n (map marked ms) short
