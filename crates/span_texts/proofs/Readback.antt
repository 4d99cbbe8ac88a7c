-- The text of a table is read back.
use Rattle.std.proofs.Common.{◌≡◌, ℕ, ◌+◌, ◌^◌, ◌<◌, ◌≤◌, nat_lt, nat_le, nat_eq, eqb, ◌&&◌, Bool, true, false, List, [], ◌∷◌, ◌++◌, length, Option, Some, None, Bor, Ok, refl, sym, ap, ◌∙◌, append_assoc, codes, decimal, arith}
use Rattle.std.specs.Prelude.{option_copied}
use Rattle.std.specs.Str.{bytes_eq}
use Rattle.std.specs.Str.Parse.{AllDigits}
use Rattle.std.proofs.lemmas.Bool.{le-leb, and_parts}
use Rattle.std.proofs.lemmas.Bool.Decides.{nat_tests}
use Rattle.std.proofs.lemmas.Fmt.{decimal_is_IsNumeral}
use Rattle.std.proofs.lemmas.List.Elements.{All-from_recursion}
use Rattle.std.proofs.lemmas.List.Splits.{slice_split_at}
use Rattle.std.proofs.lemmas.Option.{none-some}
use Rattle.std.proofs.lemmas.Str.Parse.{digit_from_value}
use Rattle.byte_lines.specs.Lines.{lines_of, lines_left}
use Rattle.pin_matrix.specs.declared.assume.Follow.{Follow}
use Rattle.span_step.specs.declared.ages.Ages.{Ages}
use Rattle.span_step.specs.declared.ages.Ages.TheVariants.{Empty, Between}
use Rattle.span_step.specs.Contexts.{is_placed, is_small}
use Rattle.span_bounds.specs.declared.row.Row.{Row}
use Rattle.span_bounds.specs.Numbers.{number_of, level_number}
use Rattle.span_bounds.specs.Tables.{IsTable, IsTableFrom}
use Rattle.span_texts.specs.declared.said.Said.{Said}
use Rattle.span_texts.specs.TableLines.{known_in, ages_in, said_in, known_placed, level_of, ages_placed, row_of, row_at, most_age}
use Rattle.span_texts.specs.Numbers.{number_in}
use Rattle.span_texts.specs.Reading.{head_line, end_line, with_row, rows_from, rows_after, rows_in, table_of}
use Rattle.span_texts.specs.Rows.{row_line, row_lines, table_text}
use Rattle.span_texts.specs.Words.{known_text, level_text}
use Rattle.span_texts.specs.Told.{IsAgeRange, HaveAgeRanges}
use Rattle.span_texts.proofs.Goings.{lines_cons, row_here}
use Rattle.span_texts.proofs.Texts.{ages_fields, row_fields, row_text, row_line-text, Without, AreSmall, IsSmall, IsWritten, without_fields, without_join, split_join, number_in-decimal}

-- what the line of a row says
abbrev pub said_row : Row → Said
said_row r = record {
  address = r.context.address;
  x = r.context.x;
  y = r.context.y;
  from = level_number r.context.from;
  to = level_number r.context.to;
  ages = r.ages;
}

not_any : (ds : List ℕ) → AllDigits 10 ds → 0 < length ds → bytes_eq ds (codes "any") ≡ false
not_any [] h l = absurd (omega arith)
not_any (d ∷ ds) h l =
    let p : d ≤ 57 = (digit_from_value d h.0).1 in
    let t : nat_eq d 97 ≡ false = grind (arith, nat_tests) in
    rw t refl

known_in-text : (o : Option ℕ) → IsSmall o → known_in (known_text o) ≡ Some o
known_in-text None h = refl
known_in-text (Some n) h =
    let p = decimal_is_IsNumeral n (h n refl) in
    rw (not_any (decimal n) p.0.1 p.0.0, number_in-decimal n (h n refl)) refl

level_in : (b : Bool) → number_in (level_text b) ≡ Some (level_number b)
level_in true = refl
level_in false = refl

ages_in-text : (a : Ages) → AreSmall a → ages_in (ages_fields a) ≡ Some a
ages_in-text Empty h = refl
ages_in-text (Between lo hi) h = rw (number_in-decimal lo h.0, number_in-decimal hi h.1) refl

said_back : (r : Row) → IsWritten r → said_in (row_fields r) ≡ Some (said_row r)
said_back r h =
    rw (
      number_in-decimal r.context.address h.address,
      known_in-text r.context.x h.x,
      known_in-text r.context.y h.y,
      level_in r.context.from,
      level_in r.context.to,
      ages_in-text r.ages h.ages,
    ) refl

known_back : (most : ℕ) (o : Option ℕ) → is_small most o ≡ true → known_placed most o ≡ Some o
known_back most None h = refl
known_back most (Some n) h = rw h refl

level_back : (b : Bool) → level_of (level_number b) ≡ Some b
level_back true = refl
level_back false = refl

ages_back : (a : Ages) → IsAgeRange a → ages_placed a ≡ Some a
ages_back Empty h = refl
ages_back (Between lo hi) h = rw (le-leb lo hi h.0, le-leb hi most_age h.1) refl

three : (a b c : Bool) → (a && (b && c)) ≡ true → (a ≡ true) × ((b ≡ true) × (c ≡ true))
three a b c h = let p = and_parts a (b && c) h in (p.0, and_parts b c p.1)

row_back : (d : Follow) (r : Row) → is_placed d r.context.address r.context.x r.context.y ≡ true → IsAgeRange r.ages → row_of d (said_row r) ≡ Some r
row_back d r p h =
    let q = three (nat_lt r.context.address 32) (is_small d.x r.context.x) (is_small d.y r.context.y) p in
    rw (q.0, known_back d.x r.context.x q.1.0, known_back d.y r.context.y q.1.1, level_back r.context.from, level_back r.context.to, ages_back r.ages h) refl

below : (n : ℕ) → nat_lt n 32 ≡ true → n < 2 ^ 64
below n h = let l : n < 32 = grind (arith, nat_tests) in omega arith

-- X and Y are followed up to no more than 16 bits hold
pub record IsNarrow (d : Follow) : Type 0 where
  pub x : d.x < 2 ^ 16
  pub y : d.y < 2 ^ 16

not_above : (most n : ℕ) → most < 2 ^ 16 → nat_le n most ≡ true → n < 2 ^ 64
not_above most n k h = let l : n ≤ most = grind (arith, nat_tests) in omega (arith, k, l)

small_known : (most : ℕ) (o : Option ℕ) → most < 2 ^ 16 → is_small most o ≡ true → IsSmall o
small_known most None k h n e = absurd (none-some _ e)
small_known most (Some m) k h n e = let s : m ≡ n = cc in not_above most n k (rw s at h)

small_ages : (a : Ages) → IsAgeRange a → AreSmall a
small_ages Empty h = tt
small_ages (Between lo hi) h = (omega (arith, h.0, h.1), omega (arith, h.1))

-- the numbers of a row in range are written in few digits
pub written : (d : Follow) (r : Row) → IsNarrow d → is_placed d r.context.address r.context.x r.context.y ≡ true → IsAgeRange r.ages → IsWritten r
written d r k p h =
    let q = three (nat_lt r.context.address 32) (is_small d.x r.context.x) (is_small d.y r.context.y) p in
    record { address = below r.context.address q.0; x = small_known d.x r.context.x k.x q.1.0; y = small_known d.y r.context.y k.y q.1.1; ages = small_ages r.ages h }

row_at-text : (d : Follow) (least : ℕ) (r : Row) → IsNarrow d → is_placed d r.context.address r.context.x r.context.y ≡ true → IsAgeRange r.ages → nat_le least (number_of d r.context) ≡ true → row_at d least (row_text r) ≡ Ok r
unfolding row_at
row_at-text d least r k p h l =
    let w = written d r k p h in
    rw (split_join (decimal r.context.address) _ (without_fields 32 r (omega arith) w), said_back r w, row_back d r p h, l) refl

digits_not_end : (ds tail : List ℕ) → AllDigits 10 ds → 0 < length ds → bytes_eq (ds ++ tail) end_line ≡ false
digits_not_end [] tail h l = absurd (omega arith)
digits_not_end (d ∷ ds) tail h l =
    let p : d ≤ 57 = (digit_from_value d h.0).1 in
    let t : nat_eq d 101 ≡ false = grind (arith, nat_tests) in
    rw t refl

not_end : (r : Row) → IsWritten r → bytes_eq (row_text r) end_line ≡ false
not_end r w =
    let p = decimal_is_IsNumeral r.context.address w.address in
    digits_not_end (decimal r.context.address) _ p.0.1 p.0.0

from_least : (least n : ℕ) → nat_lt least (n + 1) ≡ true → nat_le least n ≡ true
from_least least n h = grind (arith, nat_tests)

-- the lines after the first
pub first_row : (r : Row) (after : List ℕ) → IsWritten r → lines_of (row_line r ++ after) ≡ row_text r ∷ lines_of after
first_row r after w =
    let text : row_line r ++ after ≡ row_text r ++ 10 ∷ after =
    ap (λ (x : List ℕ). x ++ after) (row_line-text r) ∙ append_assoc (row_text r) (10 ∷ []) after in
    ap lines_of text
    ∙ slice_split_at (λ b. eqb b 10) (row_text r) 10 after (All-from_recursion (λ b. eqb b 10 ≡ false) (row_text r) (without_join (row_fields r) (without_fields 10 r (omega arith) w))) refl

rows_back : (d : Follow) (number least : ℕ) (rows : List Row) → IsNarrow d → IsTableFrom d least rows → HaveAgeRanges rows → rows_from d number least (lines_of (row_lines rows ++ codes "end\n")) ≡ Ok rows
rows_back d number least [] n h k = refl
rows_back d number least (r ∷ rs) n h k =
    let w = written d r n h.0 k.0 in
    let text : lines_of (row_lines (r ∷ rs) ++ codes "end\n") ≡ row_text r ∷ lines_of (row_lines rs ++ codes "end\n") =
    ap lines_of (append_assoc (row_line r) (row_lines rs) (codes "end\n")) ∙ first_row r (row_lines rs ++ codes "end\n") w in
    ap (rows_from d number least) text
    ∙ (row_here d number least (row_text r) (row_lines rs ++ codes "end\n") r (not_end r w) (row_at-text d least r n h.0 k.0 (from_least least (number_of d r.context) h.1.0))
    ∙ ap (with_row r) (rows_back d (number + 1) (number_of d r.context + 1) rs n h.1.1 k.1))

-- a file with this first line
pub after_head : (d : Follow) (line text : List ℕ) → rows_in d (line ∷ lines_of text) ≡ rows_after d line (lines_of text)
after_head d line text = let p = lines_cons text in rw p.2 refl

-- the same of the bytes of the file
pub after_file : (d : Follow) (bytes line : List ℕ) (after : Option (Bor (List ℕ))) (text : Bor (List ℕ)) → lines_of bytes ≡ line ∷ lines_left (option_copied after) → after ≡ Some text
    → rows_after d line (lines_of text.now) ≡ table_of d bytes
unfolding table_of
after_file d bytes line after text first more =
    sym (after_head d line text.now)
    ∙ ap (rows_in d) (sym (first ∙ ap (λ (r : Option (Bor (List ℕ))). line ∷ lines_left (option_copied r)) more))

-- a table is read back
pub table_back : (d : Follow) (rows : List Row) → d.x < 2 ^ 16 → d.y < 2 ^ 16 → IsTable d rows → HaveAgeRanges rows → table_of d (table_text rows) ≡ Ok rows
unfolding table_of table_text
table_back d rows x y h k =
    let text = row_lines rows ++ codes "end\n" in
    let head : Without 10 head_line = (refl, (refl, (refl, (refl, (refl, (refl, (refl, (refl, (refl, (refl, (refl, tt))))))))))) in
    ap (rows_in d) (slice_split_at (λ b. eqb b 10) head_line 10 text (All-from_recursion (λ b. eqb b 10 ≡ false) head_line head) refl)
    ∙ (after_head d head_line text ∙ rows_back d 2 0 rows (record { x = x; y = y }) h k)
