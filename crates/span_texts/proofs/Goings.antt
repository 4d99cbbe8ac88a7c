-- The rows of lines, one line at a time.
use Rattle.std.proofs.Common.{◌≡◌, ℕ, ◌+◌, ◌<◌, ◌≤◌, eqb, true, false, List, [], ◌∷◌, ◌++◌, length, Result, Ok, Err, Option, Some, None, Bor, refl, sym, ap, subst, ◌∙◌, append_assoc, append-nil, inl, inr, arith}
use Rattle.std.specs.Prelude.{option_copied, IfSome}
use Rattle.std.specs.List.{onto_first}
use Rattle.std.specs.Str.{bytes_eq}
use Rattle.std.proofs.lemmas.Bool.{cases_Bool}
use Rattle.std.proofs.lemmas.List.Splits.{slice_split-cons_yes, slice_split-cons_no}
use Rattle.std.proofs.lemmas.Option.{none-some}
use Rattle.answers.specs.Answers.{Refuses}
use Rattle.byte_lines.specs.Lines.{lines_of, lines_left, left_size}
use Rattle.pin_matrix.specs.declared.assume.Follow.{Follow}
use Rattle.span_bounds.specs.declared.row.Row.{Row}
use Rattle.span_bounds.specs.Numbers.{number_of}
use Rattle.span_bounds.specs.Tables.{EachRow}
use Rattle.span_texts.specs.declared.fault.TableKind.{TableKind}
use Rattle.span_texts.specs.declared.fault.TableKind.TheVariants.{BadLine}
use Rattle.span_texts.specs.Faults.{TableRefusal}
use Rattle.span_texts.specs.TableLines.{row_at}
use Rattle.span_texts.specs.Reading.{end_line, wrong_at, ended, with_row, rows_from}

-- a text has a first line
pub lines_cons : (text : List ℕ) → (first : List ℕ) × (rest : List (List ℕ)) × (lines_of text ≡ first ∷ rest)
lines_cons [] = ([], [], refl)
lines_cons (b ∷ bs) =
    let more = lines_cons bs in
    elim (cases_Bool (eqb b 10)) [
      | inl yes' ↦ ([], lines_of bs, slice_split-cons_yes (λ c. eqb c 10) b bs yes')
      | inr no' ↦ (b ∷ more.0, more.1, slice_split-cons_no (λ c. eqb c 10) b bs no' ∙ ap (onto_first b) more.2)
    ]

-- what comes after `end`
pub ended_more : (number : ℕ) (text : List ℕ) → 0 < length text → ended number (lines_of text) ≡ wrong_at number BadLine
ended_more number [] l = absurd (omega arith)
ended_more number (b ∷ bs) l =
    let more = lines_cons bs in
    elim (cases_Bool (eqb b 10)) [
      | inl yes' ↦ ap (ended number) (slice_split-cons_yes (λ c. eqb c 10) b bs yes' ∙ ap (λ (ls : List (List ℕ)). [] ∷ ls) more.2)
      | inr no' ↦ ap (ended number) (slice_split-cons_no (λ c. eqb c 10) b bs no' ∙ ap (onto_first b) more.2)
    ]

-- a fault that is returned
pub refuses : (o : Option TableRefusal) (r : TableRefusal) (d : Result (List Row) TableRefusal) → o ≡ Some r → d ≡ Err r → Refuses o d
refuses o r d e h = subst (λ (x : Option TableRefusal). Refuses x d) (sym e) h

-- rows before others, if they were read
abbrev pub with_rows : List Row → Result (List Row) TableRefusal → Result (List Row) TableRefusal
with_rows front (Ok rows) = Ok (front ++ rows)
with_rows front (Err refusal) = Err refusal

-- what the lines that are left add to the rows so far
abbrev pub going_from : Follow → List Row → ℕ → ℕ → List (List ℕ) → Result (List Row) TableRefusal
going_from d front number least lines = with_rows front (rows_from d number least lines)

with_rows-more : (front : List Row) (r : Row) (d : Result (List Row) TableRefusal) → with_rows (front ++ r ∷ []) d ≡ with_rows front (with_row r d)
with_rows-more front r (Ok rows) = ap (λ (rs : List Row). Ok rs) (append_assoc front (r ∷ []) rows)
with_rows-more front r (Err refusal) = refl

-- the line `end`
pub end_line_in : (d : Follow) (front : List Row) (number least : ℕ) (line text : List ℕ) (all : Result (List Row) TableRefusal) → bytes_eq line end_line ≡ true
    → going_from d front number least (line ∷ lines_of text) ≡ all → with_rows front (ended (number + 1) (lines_of text)) ≡ all
end_line_in d front number least line text all e whole =
    let p = lines_cons text in
    let h : rows_from d number least (line ∷ lines_of text) ≡ ended (number + 1) (lines_of text) = rw (p.2, e) refl in
    sym (ap (with_rows front) h) ∙ whole

-- nothing comes after `end`
pub ends_ok : (front : List Row) (d all : Result (List Row) TableRefusal) → with_rows front d ≡ all → d ≡ Ok [] → all ≡ Ok front
ends_ok front d all whole h = sym whole ∙ ap (with_rows front) h ∙ ap (λ (rs : List Row). Ok rs) (append-nil front)

-- a faulty line
pub bad_line_in : (d : Follow) (front : List Row) (number least : ℕ) (line text : List ℕ) (kind : TableKind) (all : Result (List Row) TableRefusal) → bytes_eq line end_line ≡ false
    → row_at d least line ≡ Err kind → going_from d front number least (line ∷ lines_of text) ≡ all → all ≡ wrong_at number kind
bad_line_in d front number least line text kind all e f whole =
    let p = lines_cons text in
    let h : rows_from d number least (line ∷ lines_of text) ≡ wrong_at number kind = rw (p.2, e, f) refl in
    sym whole ∙ ap (with_rows front) h

-- the line of a row
pub row_here : (d : Follow) (number least : ℕ) (line text : List ℕ) (r : Row) → bytes_eq line end_line ≡ false → row_at d least line ≡ Ok r
    → rows_from d number least (line ∷ lines_of text) ≡ with_row r (rows_from d (number + 1) (number_of d r.context + 1) (lines_of text))
row_here d number least line text r e f = let p = lines_cons text in rw (p.2, e, f) refl

pub row_line_in : (d : Follow) (front : List Row) (number least : ℕ) (line text : List ℕ) (r : Row) (all : Result (List Row) TableRefusal) → bytes_eq line end_line ≡ false
    → row_at d least line ≡ Ok r → going_from d front number least (line ∷ lines_of text) ≡ all
    → going_from d (front ++ r ∷ []) (number + 1) (number_of d r.context + 1) (lines_of text) ≡ all
row_line_in d front number least line text r all e f whole =
    with_rows-more front r (rows_from d (number + 1) (number_of d r.context + 1) (lines_of text))
    ∙ (sym (ap (with_rows front) (row_here d number least line text r e f)) ∙ whole)

-- what is left, at its first line
pub opened : (d : Follow) (front : List Row) (number least : ℕ) (rest after : Option (Bor (List ℕ))) (text next : Bor (List ℕ)) (line : List ℕ) (all : Result (List Row) TableRefusal)
    → rest ≡ Some text → lines_of text.now ≡ line ∷ lines_left (option_copied after) → after ≡ Some next
    → going_from d front number least (lines_left (option_copied rest)) ≡ all → going_from d front number least (line ∷ lines_of next.now) ≡ all
opened d front number least rest after text next line all is first more whole =
    let left : lines_left (option_copied after) ≡ lines_of next.now = ap (λ (r : Option (Bor (List ℕ))). lines_left (option_copied r)) more in
    ap (λ (ls : List (List ℕ)). going_from d front number least (line ∷ ls)) (sym left)
    ∙ (ap (going_from d front number least) (sym (ap (λ (r : Option (Bor (List ℕ))). lines_left (option_copied r)) is ∙ first)) ∙ whole)

-- the rows after the line of a row, as the code has them
pub kept : (d : Follow) (front new : List Row) (number least above : ℕ) (rest after : Option (Bor (List ℕ))) (text next : Bor (List ℕ)) (line : List ℕ) (r : Row) (all : Result (List Row) TableRefusal)
    → rest ≡ Some text → lines_of text.now ≡ line ∷ lines_left (option_copied after) → after ≡ Some next → bytes_eq line end_line ≡ false
    → row_at d least line ≡ Ok r → above ≡ number_of d r.context → new ≡ front ++ r ∷ []
    → going_from d front number least (lines_left (option_copied rest)) ≡ all → going_from d new (number + 1) (above + 1) (lines_left (option_copied after)) ≡ all
kept d front new number least above rest after text next line r all is first more other row up grown whole =
    let here = row_line_in d front number least line next.now r all other row (opened d front number least rest after text next line all is first more whole) in
    let left : lines_left (option_copied after) ≡ lines_of next.now = ap (λ (o : Option (Bor (List ℕ))). lines_left (option_copied o)) more in
    ap (λ (f : List Row). going_from d f (number + 1) (above + 1) (lines_left (option_copied after))) grown
    ∙ (ap (λ (n : ℕ). going_from d (front ++ r ∷ []) (number + 1) (n + 1) (lines_left (option_copied after))) up
    ∙ (ap (going_from d (front ++ r ∷ []) (number + 1) (number_of d r.context + 1)) left ∙ here))

-- the lines that are left are fewer
pub left_on : (after : Option (Bor (List ℕ))) (next : Bor (List ℕ)) (n : ℕ) → after ≡ Some next → IfSome after (λ b. length b.now < n) → left_size (option_copied after) ≤ n
left_on None next n e h = absurd (none-some _ e)
left_on (Some b) next n e h = omega (arith, h)

-- all rows come before a number
abbrev pub AllBelow : Follow → ℕ → List Row → Type 0
AllBelow d n rows = EachRow (λ r. number_of d r.context < n) rows

pub AllBelow-push : (d : Follow) (n m : ℕ) (rows : List Row) (r : Row) → AllBelow d n rows → n ≤ m → number_of d r.context < m → AllBelow d m (rows ++ r ∷ [])
AllBelow-push d n m [] r h l k = (k, tt)
AllBelow-push d n m (s ∷ rows) r h l k = (omega (arith, h.0), AllBelow-push d n m rows r h.1 l k)

pub AllBelow-up : (d : Follow) (n m : ℕ) (rows : List Row) → AllBelow d n rows → n ≤ m → AllBelow d m rows
AllBelow-up d n m [] h l = tt
AllBelow-up d n m (s ∷ rows) h l = (omega (arith, h.0), AllBelow-up d n m rows h.1 l)
