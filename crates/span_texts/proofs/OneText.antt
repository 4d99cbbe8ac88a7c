-- A text that is read as a table is that table's text.
use Rattle.std.proofs.Common.{◌≡◌, ℕ, ◌+◌, ◌^◌, ◌<◌, ◌≤◌, nat_lt, nat_le, cond, ◌&&◌, ◌==◌, Bool, true, false, List, [], ◌∷◌, ◌++◌, Option, Some, None, Result, Ok, Err, refl, sym, ap, subst, ◌∙◌, append_assoc, codes, decimal, inl, inr, arith}
use Rattle.std.specs.List.{join_with_byte}
use Rattle.std.specs.Str.{bytes_eq}
use Rattle.std.proofs.lemmas.Bool.{cases_Bool, and_parts, leb-true, and_from}
use Rattle.std.proofs.lemmas.Bool.Decides.{nat_tests}
use Rattle.std.proofs.lemmas.Fmt.{decimal_digit}
use Rattle.std.proofs.lemmas.List.Splits.{join_with_byte-slice_split}
use Rattle.std.proofs.lemmas.Option.{cond_some, none-some, same_Some}
use Rattle.std.proofs.lemmas.Slice.Eq.{bytes_eq-Decides}
use Rattle.byte_lines.specs.Lines.{lines_of}
use Rattle.pin_matrix.specs.declared.assume.Follow.{Follow}
use Rattle.span_step.specs.declared.ages.Ages.{Ages}
use Rattle.span_step.specs.declared.ages.Ages.TheVariants.{Empty, Between}
use Rattle.span_step.specs.Contexts.{is_placed, is_small}
use Rattle.span_bounds.specs.declared.row.Row.{Row}
use Rattle.span_bounds.specs.Numbers.{number_of, level_number}
use Rattle.span_bounds.specs.Tables.{IsTable, IsTableFrom}
use Rattle.span_texts.specs.declared.fault.TableKind.{TableKind}
use Rattle.span_texts.specs.declared.said.Said.{Said}
use Rattle.span_texts.specs.Faults.{TableRefusal}
use Rattle.span_texts.specs.TableLines.{known_in, ages_in, between, said_by, said_in, fields_of, placed, known_placed, level_of, ages_placed, row_by, row_of, in_order, row_from, row_at, most_age}
use Rattle.span_texts.specs.Numbers.{number_in}
use Rattle.span_texts.specs.Reading.{head_line, end_line, left_open, ended, with_row, rows_from, rows_after, rows_in, table_of}
use Rattle.span_texts.specs.Rows.{row_line, row_lines, table_text}
use Rattle.span_texts.specs.Words.{known_text, level_text}
use Rattle.span_texts.specs.Told.{IsAgeRange, HaveAgeRanges}
use Rattle.span_texts.proofs.Numerals.{decimal-number_in, known_text-known_in}
use Rattle.span_texts.proofs.Readback.{written, IsNarrow}
use Rattle.span_texts.proofs.Texts.{ages_fields, row_fields, row_text, row_line-text, AreSmall}

err_ok : {A B : Type 0} {x : A} {y : B} → Err x ≡ Ok y → ⊥
err_ok e = cc

ok_same : {A B : Type 0} (x y : A) → ◌≡◌ {A = Result A B} (Ok x) (Ok y) → x ≡ y
ok_same x y e = cc

-- each part of a row was there
record Parts (a : Option ℕ) (x y : Option (Option ℕ)) (f t : Option Bool) (g : Option Ages) (r : Row) : Type 0 where
  address : a ≡ Some r.context.address
  x_is : x ≡ Some r.context.x
  y_is : y ≡ Some r.context.y
  from_is : f ≡ Some r.context.from
  to_is : t ≡ Some r.context.to
  ages_are : g ≡ Some r.ages

row_parts : (a : Option ℕ) (x y : Option (Option ℕ)) (f t : Option Bool) (g : Option Ages) (r : Row) → row_by a x y f t g ≡ Some r → Parts a x y f t g r
row_parts None x y f t g r e = absurd (none-some _ e)
row_parts (Some a) None y f t g r e = absurd (none-some _ e)
row_parts (Some a) (Some x) None f t g r e = absurd (none-some _ e)
row_parts (Some a) (Some x) (Some y) None t g r e = absurd (none-some _ e)
row_parts (Some a) (Some x) (Some y) (Some f) None g r e = absurd (none-some _ e)
row_parts (Some a) (Some x) (Some y) (Some f) (Some t) None r e = absurd (none-some _ e)
row_parts (Some a) (Some x) (Some y) (Some f) (Some t) (Some g) r e =
    let s : record { context = record { address = a; x = x; y = y; from = f; to = t }; ages = g } ≡ r = same_Some _ r e in
    record {
      address = ap (λ (q : Row). Some q.context.address) s;
      x_is = ap (λ (q : Row). Some q.context.x) s;
      y_is = ap (λ (q : Row). Some q.context.y) s;
      from_is = ap (λ (q : Row). Some q.context.from) s;
      to_is = ap (λ (q : Row). Some q.context.to) s;
      ages_are = ap (λ (q : Row). Some q.ages) s;
    }

-- each field said something
record Sayings (a : Option ℕ) (x y : Option (Option ℕ)) (f t : Option ℕ) (g : Option Ages) (s : Said) : Type 0 where
  address : a ≡ Some s.address
  x_is : x ≡ Some s.x
  y_is : y ≡ Some s.y
  from_is : f ≡ Some s.from
  to_is : t ≡ Some s.to
  ages_are : g ≡ Some s.ages

sayings : (a : Option ℕ) (x y : Option (Option ℕ)) (f t : Option ℕ) (g : Option Ages) (s : Said) → said_by a x y f t g ≡ Some s → Sayings a x y f t g s
sayings None x y f t g s e = absurd (none-some _ e)
sayings (Some a) None y f t g s e = absurd (none-some _ e)
sayings (Some a) (Some x) None f t g s e = absurd (none-some _ e)
sayings (Some a) (Some x) (Some y) None t g s e = absurd (none-some _ e)
sayings (Some a) (Some x) (Some y) (Some f) None g s e = absurd (none-some _ e)
sayings (Some a) (Some x) (Some y) (Some f) (Some t) None s e = absurd (none-some _ e)
sayings (Some a) (Some x) (Some y) (Some f) (Some t) (Some g) s e =
    let q : record { address = a; x = x; y = y; from = f; to = t; ages = g } ≡ s = same_Some _ s e in
    record {
      address = ap (λ (p : Said). Some p.address) q;
      x_is = ap (λ (p : Said). Some p.x) q;
      y_is = ap (λ (p : Said). Some p.y) q;
      from_is = ap (λ (p : Said). Some p.from) q;
      to_is = ap (λ (p : Said). Some p.to) q;
      ages_are = ap (λ (p : Said). Some p.ages) q;
    }

placed_is : (n a : ℕ) → placed n ≡ Some a → (n ≡ a) × (nat_lt a 32 ≡ true)
placed_is n a e =
    let p = cond_some (nat_lt n 32) n a e in
    (p.1, rw p.1 at p.0)

known_is : (most : ℕ) (o k : Option ℕ) → known_placed most o ≡ Some k → (o ≡ k) × (is_small most k ≡ true)
known_is most None k e = let s : None ≡ k = same_Some None k e in (s, ap (is_small most) (sym s))
known_is most (Some n) k e = on (nat_le n most) refl e where
  on : (b : Bool) → nat_le n most ≡ b → cond b (Some (Some n)) None ≡ Some k → (Some n ≡ k) × (is_small most k ≡ true)
  on false q f = absurd (none-some _ f)
  on true q f = let s : Some n ≡ k = same_Some (Some n) k f in (s, ap (is_small most) (sym s) ∙ q)

level_by : (b c : Bool) (n : ℕ) (l : Bool) → (n == 0) ≡ b → (n == 1) ≡ c → cond b (Some false) (cond c (Some true) None) ≡ Some l → n ≡ level_number l
level_by true c n l p q e =
    let s : false ≡ l = same_Some false l e in
    let z : n ≡ 0 = grind (arith, nat_tests) in z ∙ ap level_number s
level_by false true n l p q e =
    let s : true ≡ l = same_Some true l e in
    let z : n ≡ 1 = grind (arith, nat_tests) in z ∙ ap level_number s
level_by false false n l p q e = absurd (none-some _ e)

level_is : (n : ℕ) (l : Bool) → level_of n ≡ Some l → n ≡ level_number l
level_is n l e = level_by (n == 0) (n == 1) n l refl refl e

ages_by : (b : Bool) (lo hi : ℕ) (g : Ages) → (nat_le lo hi && nat_le hi most_age) ≡ b → cond b (Some (Between lo hi)) None ≡ Some g → (Between lo hi ≡ g) × IsAgeRange (Between lo hi)
ages_by true lo hi g p e =
    let q = and_parts (nat_le lo hi) (nat_le hi most_age) p in
    (same_Some (Between lo hi) g e, (leb-true lo hi q.0, leb-true hi most_age q.1))
ages_by false lo hi g p e = absurd (none-some _ e)

ages_are : (a g : Ages) → ages_placed a ≡ Some g → (a ≡ g) × IsAgeRange a
ages_are Empty g e = (same_Some Empty g e, tt)
ages_are (Between lo hi) g e = ages_by (nat_le lo hi && nat_le hi most_age) lo hi g refl e

-- a level's field
level_field : (b : Bool) (field : List ℕ) → number_in field ≡ Some (level_number b) → level_text b ≡ field
level_field true field e = sym (decimal_digit 1 (omega arith)) ∙ decimal-number_in 1 field (omega arith) e
level_field false field e = sym (decimal_digit 0 (omega arith)) ∙ decimal-number_in 0 field (omega arith) e

empty_by : (b : Bool) (field : List ℕ) (g : Ages) → bytes_eq field (codes "-") ≡ b → cond b (Some Empty) None ≡ Some g → ages_fields g ≡ field ∷ []
empty_by true field g p e =
    let s : Empty ≡ g = same_Some Empty g e in
    ap ages_fields (sym s) ∙ ap (λ (x : List ℕ). x ∷ []) (sym ((bytes_eq-Decides field (codes "-")).0 p))
empty_by false field g p e = absurd (none-some _ e)

between_by : (o p : Option ℕ) (lo hi : List ℕ) (g : Ages) → number_in lo ≡ o → number_in hi ≡ p → AreSmall g → between o p ≡ Some g → ages_fields g ≡ lo ∷ hi ∷ []
between_by None p lo hi g h k l e = absurd (none-some _ e)
between_by (Some n) None lo hi g h k l e = absurd (none-some _ e)
between_by (Some n) (Some m) lo hi g h k l e =
    let s : Between n m ≡ g = same_Some (Between n m) g e in
    let small : AreSmall (Between n m) = subst (λ (a : Ages). AreSmall a) (sym s) l in
    ap ages_fields (sym s) ∙ (ap (λ (x : List ℕ). x ∷ decimal m ∷ []) (decimal-number_in n lo small.0 h) ∙ ap (λ (x : List ℕ). lo ∷ x ∷ []) (decimal-number_in m hi small.1 k))

-- the fields of ages
ages_there : (fields : List (List ℕ)) (g : Ages) → AreSmall g → ages_in fields ≡ Some g → ages_fields g ≡ fields
ages_there [] g h e = absurd (none-some _ e)
ages_there (field ∷ []) g h e = empty_by (bytes_eq field (codes "-")) field g refl e
ages_there (lo ∷ hi ∷ []) g h e = between_by (number_in lo) (number_in hi) lo hi g refl refl h e
ages_there (lo ∷ hi ∷ more ∷ others) g h e = absurd (none-some _ e)

-- what is known of a row that was read
record IsRead (d : Follow) (r : Row) (fields : List (List ℕ)) : Type 0 where
  whole : IsNarrow d → row_fields r ≡ fields
  in_place : is_placed d r.context.address r.context.x r.context.y ≡ true
  told : IsAgeRange r.ages

six : {a b c d e a2 b2 c2 d2 e2 : List ℕ} {g g2 : List (List ℕ)} → a ≡ a2 → b ≡ b2 → c ≡ c2 → d ≡ d2 → e ≡ e2 → g ≡ g2 → (a ∷ b ∷ c ∷ d ∷ e ∷ g) ≡ (a2 ∷ b2 ∷ c2 ∷ d2 ∷ e2 ∷ g2)
six p q s t u v = cc

-- a row's fields
fields_there : (d : Follow) (a x y f t : List ℕ) (g : List (List ℕ)) (s : Said) (r : Row) → said_in (a ∷ x ∷ y ∷ f ∷ t ∷ g) ≡ Some s → row_of d s ≡ Some r → IsRead d r (a ∷ x ∷ y ∷ f ∷ t ∷ g)
fields_there d a x y f t g s r e h =
    let said = sayings (number_in a) (known_in x) (known_in y) (number_in f) (number_in t) (ages_in g) s e in
    let part = row_parts (placed s.address) (known_placed d.x s.x) (known_placed d.y s.y) (level_of s.from) (level_of s.to) (ages_placed s.ages) r h in
    let pa = placed_is s.address r.context.address part.address in
    let px = known_is d.x s.x r.context.x part.x_is in
    let py = known_is d.y s.y r.context.y part.y_is in
    let pf = level_is s.from r.context.from part.from_is in
    let pt = level_is s.to r.context.to part.to_is in
    let pg = ages_are s.ages r.ages part.ages_are in
    let told : IsAgeRange r.ages = rw (← pg.0) pg.1 in
    let there : is_placed d r.context.address r.context.x r.context.y ≡ true = and_from _ _ pa.1 (and_from _ _ px.1 py.1) in
    let ef : level_text r.context.from ≡ f = level_field r.context.from f (said.from_is ∙ ap (λ (n : ℕ). Some n) pf) in
    let et : level_text r.context.to ≡ t = level_field r.context.to t (said.to_is ∙ ap (λ (n : ℕ). Some n) pt) in
    record {
      whole = λ narrow. (
          let w = written d r narrow there told in
          let ea : decimal r.context.address ≡ a = decimal-number_in r.context.address a w.address (said.address ∙ ap (λ (n : ℕ). Some n) pa.0) in
          let ex : known_text r.context.x ≡ x = known_text-known_in r.context.x x w.x (said.x_is ∙ ap (λ (n : Option ℕ). Some n) px.0) in
          let ey : known_text r.context.y ≡ y = known_text-known_in r.context.y y w.y (said.y_is ∙ ap (λ (n : Option ℕ). Some n) py.0) in
          let eg : ages_fields r.ages ≡ g = ages_there g r.ages w.ages (said.ages_are ∙ ap (λ (n : Ages). Some n) pg.0) in
          six ea ex ey ef et eg);
      in_place = there;
      told = told;
    }

row_there : (d : Follow) (fields : List (List ℕ)) (s : Said) (r : Row) → said_in fields ≡ Some s → row_of d s ≡ Some r → IsRead d r fields
row_there d [] s r e h = absurd (none-some _ e)
row_there d (a ∷ []) s r e h = absurd (none-some _ e)
row_there d (a ∷ x ∷ []) s r e h = absurd (none-some _ e)
row_there d (a ∷ x ∷ y ∷ []) s r e h = absurd (none-some _ e)
row_there d (a ∷ x ∷ y ∷ f ∷ []) s r e h = absurd (none-some _ e)
row_there d (a ∷ x ∷ y ∷ f ∷ t ∷ g) s r e h = fields_there d a x y f t g s r e h

-- what is known of a line that was read
record IsRowLine (d : Follow) (least : ℕ) (line : List ℕ) (r : Row) : Type 0 where
  text : IsNarrow d → row_text r ≡ line
  in_place : is_placed d r.context.address r.context.x r.context.y ≡ true
  after : nat_lt least (number_of d r.context + 1) ≡ true
  told : IsAgeRange r.ages

ordered_by : (d : Follow) (b : Bool) (q r : Row) (least : ℕ) (k : TableKind) → nat_le least (number_of d q.context) ≡ b → cond b (Ok q) (Err k) ≡ Ok r → (q ≡ r) × (b ≡ true)
ordered_by d true q r least k p e = (ok_same q r e, refl)
ordered_by d false q r least k p e = absurd (err_ok e)

above : (least n : ℕ) → nat_le least n ≡ true → nat_lt least (n + 1) ≡ true
above least n e = grind (arith, nat_tests)

from_said : (d : Follow) (o : Option Said) (least : ℕ) (line : List ℕ) (r : Row) → said_in (fields_of line) ≡ o → row_from d least o ≡ Ok r → IsRowLine d least line r
from_said d None least line r e h = absurd (err_ok h)
from_said d (Some s) least line r e h = on (row_of d s) refl h where
  on : (o : Option Row) → row_of d s ≡ o → in_order d least o ≡ Ok r → IsRowLine d least line r
  on None p k = absurd (err_ok k)
  on (Some q) p k =
      let t = ordered_by d (nat_le least (number_of d q.context)) q r least _ refl k in
      let is : row_of d s ≡ Some r = p ∙ ap (λ (i : Row). Some i) t.0 in
      let read = row_there d (fields_of line) s r e is in
      record {
        text = λ narrow. ap (join_with_byte 32) (read.whole narrow) ∙ join_with_byte-slice_split 32 line;
        in_place = read.in_place;
        after = above least (number_of d r.context) (ap (λ (i : Row). nat_le least (number_of d i.context)) (sym t.0) ∙ t.1);
        told = read.told;
      }

row_line_there : (d : Follow) (least : ℕ) (line : List ℕ) (r : Row) → row_at d least line ≡ Ok r → IsRowLine d least line r
unfolding row_at
row_line_there d least line r h = from_said d (said_in (fields_of line)) least line r refl h

-- a line that was read has a context that comes after the others
pub row_least : (d : Follow) (least : ℕ) (line : List ℕ) (r : Row) → row_at d least line ≡ Ok r → least ≤ number_of d r.context
row_least d least line r h = at_most_after least (number_of d r.context) (row_line_there d least line r h).after where
  at_most_after : (least n : ℕ) → nat_lt least (n + 1) ≡ true → least ≤ n
  at_most_after least n e = grind (arith, nat_tests)

-- what is known of lines that were read
record AreLines (d : Follow) (least : ℕ) (lines : List (List ℕ)) (rows : List Row) : Type 0 where
  text : IsNarrow d → join_with_byte 10 lines ≡ row_lines rows ++ codes "end\n"
  table : IsTableFrom d least rows
  told : HaveAgeRanges rows

open_bad : (number : ℕ) (last : List ℕ) (rows : List Row) → left_open number last ≡ Ok rows → ⊥
open_bad number [] rows e = err_ok e
open_bad number (b ∷ bs) rows e = err_ok e

ended_is : (number : ℕ) (next : List ℕ) (others : List (List ℕ)) (rows : List Row) → ended number (next ∷ others) ≡ Ok rows → ((next ∷ others) ≡ ([] ∷ [])) × ([] ≡ rows)
ended_is number [] [] rows e = (refl, ok_same [] rows e)
ended_is number [] (other ∷ others) rows e = absurd (err_ok e)
ended_is number (b ∷ bs) others rows e = absurd (err_ok e)

at_end : (d : Follow) (number least : ℕ) (line next : List ℕ) (others : List (List ℕ)) (rows : List Row) → bytes_eq line end_line ≡ true → ended number (next ∷ others) ≡ Ok rows → AreLines d least (line ∷ next ∷ others) rows
at_end d number least line next others rows p e =
    let t = ended_is number next others rows e in
    let l : line ≡ end_line = (bytes_eq-Decides line end_line).0 p in
    rw (t.0, ← t.1, l) (record { text = λ narrow. refl; table = tt; told = tt })

with_row_is : (r : Row) (d : Result (List Row) TableRefusal) (rows : List Row) → with_row r d ≡ Ok rows → (rs : List Row) × ((d ≡ Ok rs) × ((r ∷ rs) ≡ rows))
with_row_is r (Ok rs) rows e = (rs, (refl, ok_same (r ∷ rs) rows e))
with_row_is r (Err refusal) rows e = absurd (err_ok e)

at_row : (d : Follow) (number least : ℕ) (line next : List ℕ) (others : List (List ℕ)) (r : Row) (rows : List Row)
    → ((n l : ℕ) (rs : List Row) → rows_from d n l (next ∷ others) ≡ Ok rs → AreLines d l (next ∷ others) rs)
    → row_at d least line ≡ Ok r → with_row r (rows_from d (number + 1) (number_of d r.context + 1) (next ∷ others)) ≡ Ok rows → AreLines d least (line ∷ next ∷ others) rows
at_row d number least line next others r rows rest p e =
    let t = with_row_is r (rows_from d (number + 1) (number_of d r.context + 1) (next ∷ others)) rows e in
    let more = rest (number + 1) (number_of d r.context + 1) t.0 t.1.0 in
    let l = row_line_there d least line r p in
    let all : IsNarrow d → line ++ 10 ∷ join_with_byte 10 (next ∷ others) ≡ row_lines (r ∷ t.0) ++ codes "end\n" = λ narrow.
    ap (λ (x : List ℕ). x ++ 10 ∷ join_with_byte 10 (next ∷ others)) (sym (l.text narrow))
    ∙ ap (λ (x : List ℕ). row_text r ++ 10 ∷ x) (more.text narrow)
    ∙ sym (append_assoc (row_text r) (10 ∷ []) (row_lines t.0 ++ codes "end\n"))
    ∙ ap (λ (x : List ℕ). x ++ (row_lines t.0 ++ codes "end\n")) (sym (row_line-text r))
    ∙ sym (append_assoc (row_line r) (row_lines t.0) (codes "end\n")) in
    rw (← t.1.1) (record { text = all; table = (l.in_place, (l.after, more.table)); told = (l.told, more.told) })

by_row : (d : Follow) (number least : ℕ) (line next : List ℕ) (others : List (List ℕ)) (rows : List Row) (o : Result Row TableKind) → row_at d least line ≡ o
    → ((n l : ℕ) (rs : List Row) → rows_from d n l (next ∷ others) ≡ Ok rs → AreLines d l (next ∷ others) rs)
    → bytes_eq line end_line ≡ false → rows_from d number least (line ∷ next ∷ others) ≡ Ok rows → AreLines d least (line ∷ next ∷ others) rows
by_row d number least line next others rows (Err kind) p rest other e = absurd (err_ok (rw (other, p) at e))
by_row d number least line next others rows (Ok r) p rest other e = at_row d number least line next others r rows rest p (rw (other, p) at e)

at_line : (d : Follow) (number least : ℕ) (line next : List ℕ) (others : List (List ℕ)) (rows : List Row)
    → ((n l : ℕ) (rs : List Row) → rows_from d n l (next ∷ others) ≡ Ok rs → AreLines d l (next ∷ others) rs)
    → rows_from d number least (line ∷ next ∷ others) ≡ Ok rows → AreLines d least (line ∷ next ∷ others) rows
at_line d number least line next others rows rest e = elim (cases_Bool (bytes_eq line end_line)) [
  | inl yes' ↦ at_end d (number + 1) least line next others rows yes' (rw yes' at e)
  | inr no' ↦ by_row d number least line next others rows (row_at d least line) refl rest no' e
]

lines_there : (d : Follow) (number least : ℕ) (lines : List (List ℕ)) (rows : List Row) → rows_from d number least lines ≡ Ok rows → AreLines d least lines rows
lines_there d number least [] rows e = absurd (err_ok e)
lines_there d number least (last ∷ []) rows e = absurd (open_bad number last rows e)
lines_there d number least (line ∷ next ∷ others) rows e =
    at_line d number least line next others rows (λ n l rs h. lines_there d n l (next ∷ others) rs h) e

-- what is known of a file that was read
record IsFile (d : Follow) (lines : List (List ℕ)) (rows : List Row) : Type 0 where
  text : IsNarrow d → join_with_byte 10 lines ≡ codes "pio table 1\n" ++ row_lines rows ++ codes "end\n"
  table : IsTable d rows
  told : HaveAgeRanges rows

after_is : (d : Follow) (line next : List ℕ) (others : List (List ℕ)) (rows : List Row) → rows_after d line (next ∷ others) ≡ Ok rows → IsFile d (line ∷ next ∷ others) rows
after_is d line next others rows e = elim (cases_Bool (bytes_eq line head_line)) [
  | inl yes' ↦ (
      let more = lines_there d 2 0 (next ∷ others) rows (rw yes' at e) in
      record {
        text = λ narrow. ap (λ (x : List ℕ). x ++ 10 ∷ join_with_byte 10 (next ∷ others)) ((bytes_eq-Decides line head_line).0 yes') ∙ ap (λ (x : List ℕ). codes "pio table 1\n" ++ x) (more.text narrow);
        table = more.table;
        told = more.told;
      })
  | inr no' ↦ absurd (err_ok (rw no' at e))
]

file_there : (d : Follow) (lines : List (List ℕ)) (rows : List Row) → rows_in d lines ≡ Ok rows → IsFile d lines rows
file_there d [] rows e = absurd (err_ok e)
file_there d (last ∷ []) rows e = absurd (open_bad 1 last rows e)
file_there d (line ∷ next ∷ others) rows e = after_is d line next others rows e

whole_file : (d : Follow) (bytes : List ℕ) (rows : List Row) → table_of d bytes ≡ Ok rows → IsFile d (lines_of bytes) rows
unfolding table_of
whole_file d bytes rows e = file_there d (lines_of bytes) rows e

pub one_text : (d : Follow) (bytes : List ℕ) (rows : List Row) → d.x < 2 ^ 16 → d.y < 2 ^ 16 → table_of d bytes ≡ Ok rows → table_text rows ≡ bytes
unfolding table_text
one_text d bytes rows x y e = sym ((whole_file d bytes rows e).text (record { x = x; y = y })) ∙ join_with_byte-slice_split 10 bytes

pub read_table_is : (d : Follow) (bytes : List ℕ) (rows : List Row) → table_of d bytes ≡ Ok rows → IsTable d rows
read_table_is d bytes rows e = (whole_file d bytes rows e).table

pub read_table_told : (d : Follow) (bytes : List ℕ) (rows : List Row) → table_of d bytes ≡ Ok rows → HaveAgeRanges rows
read_table_told d bytes rows e = (whole_file d bytes rows e).told
