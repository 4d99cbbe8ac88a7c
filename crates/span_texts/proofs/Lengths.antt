-- How long the lines of rows are, and how many rows a table may have.
use Rattle.std.proofs.Common.{◌≡◌, ℕ, ◌+◌, ◌*◌, ◌^◌, ◌<◌, ◌≤◌, Bool, true, false, List, [], ◌∷◌, length, length-append, decimal, refl, ap, ◌∙◌, arith}
use Rattle.std.proofs.lemmas.Bool.{ltb-true}
use Rattle.std.proofs.lemmas.Nat.{mul-le}
use Rattle.pin_matrix.specs.declared.assume.Follow.{Follow}
use Rattle.span_step.specs.Contexts.{Context, is_placed}
use Rattle.span_bounds.specs.declared.row.Row.{Row}
use Rattle.span_bounds.specs.Numbers.{contexts, number_of}
use Rattle.span_bounds.specs.Tables.{IsTable, IsTableFrom}
use Rattle.span_texts.specs.Rows.{ages_text, context_line, fields_line, levels_text, row_line, row_lines}
use Rattle.span_texts.specs.Words.{known_text}

levels_len : (from to : Bool) → length (levels_text from to) ≡ 5
levels_len true true = refl
levels_len true false = refl
levels_len false true = refl
levels_len false false = refl

fields_len : (address : ℕ) (x y levels ages : List ℕ) → length (fields_line address x y levels ages) ≡ length (decimal address) + length x + length y + length levels + length ages + 3
fields_len address x y levels ages = simp length-append (omega arith)

-- a line without its ages
pub context_len : (k : Context) → length (context_line k []) ≡ length (decimal k.address) + length (known_text k.x) + length (known_text k.y) + 8
context_len k = fields_len k.address (known_text k.x) (known_text k.y) (levels_text k.from k.to) [] ∙ omega (arith, levels_len k.from k.to)

-- by the lengths of its fields
pub context_parts : (k : Context) (address x y : ℕ) → address ≡ length (decimal k.address) → x ≡ length (known_text k.x) → y ≡ length (known_text k.y)
    → address + x + y + 1 + 1 + 5 + 1 ≡ length (context_line k [])
context_parts k address x y a b c = omega (arith, context_len k, a, b, c)

-- a line is as long as that and its ages
pub row_len : (r : Row) → length (row_line r) ≡ length (context_line r.context []) + length (ages_text r.ages)
unfolding row_line
row_len r =
    let k = r.context in
    fields_len k.address (known_text k.x) (known_text k.y) (levels_text k.from k.to) (ages_text r.ages)
    ∙ omega (arith, levels_len k.from k.to, context_len k)

-- the lines of a row and others
pub lines_len : (r : Row) (rows : List Row) → length (row_lines (r ∷ rows)) ≡ length (context_line r.context []) + length (ages_text r.ages) + length (row_lines rows)
lines_len r rows = length-append (row_line r) (row_lines rows) ∙ ap (λ (n : ℕ). n + length (row_lines rows)) (row_len r)

-- what a law of contexts says
abbrev pub HaveNumbers : Type 0
HaveNumbers = (d : Follow) (k : Context) → is_placed d k.address k.x k.y ≡ true → number_of d k < contexts d

rows_within : HaveNumbers → (d : Follow) (n : ℕ) (rows : List Row) → n ≤ contexts d → IsTableFrom d n rows → n + length rows ≤ contexts d
rows_within law d n [] l h = omega (arith, l)
rows_within law d n (r ∷ rows) l h =
    let below = law d r.context h.0 in
    let from : n < number_of d r.context + 1 = ltb-true _ _ h.1.0 in
    omega (arith, from, rows_within law d (number_of d r.context + 1) rows (omega (arith, below)) h.1.1)

bounded : (n : ℕ) → n ≤ 137443147808 → 4 * n ≤ 2 ^ 40
bounded n l = omega (arith, l)

few_contexts : (d : Follow) → d.x < 2 ^ 16 → d.y < 2 ^ 16 → contexts d ≤ 2 ^ 40
unfolding contexts
few_contexts d x y =
    let inner : (d.x + 2) * 32 ≤ 2097184 = omega (arith, x) in
    bounded _ (mul-le (d.y + 2) ((d.x + 2) * 32) 65537 2097184 (omega (arith, y)) inner)

-- a table has no more rows than there are contexts
pub few_rows : HaveNumbers → (d : Follow) (rows : List Row) → d.x < 2 ^ 16 → d.y < 2 ^ 16 → IsTable d rows → length rows ≤ 2 ^ 40
few_rows law d rows x y h = omega (arith, few_contexts d x y, rows_within law d 0 rows (omega arith) h)
