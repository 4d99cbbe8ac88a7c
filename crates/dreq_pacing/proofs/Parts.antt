-- The fields of a line are parted at its first blank, newline or `#`.
use Rattle.std.proofs.Common.{◌≡◌, refl, ℕ, true, false, List, [], ◌∷◌, ◌++◌, ◌+◌, ◌<◌, ◌≤◌, ◌==◌, ◌||◌, suc, zero, inl, inr, cond, Bool, length, get_or, take, drop, sym, ap, subst, ◌∙◌, arith}
use Rattle.std.specs.List.{filter, onto_first, AllByRecursion}
use Rattle.std.proofs.lemmas.List.{at_drop_more, take-append-drop, take_all, take_more, append-nil, length-take}
use Rattle.std.proofs.lemmas.Bool.{cases_eq, cases_Bool, or_parts}
use Rattle.std.proofs.lemmas.Bool.Decides.{nat_tests}
use Rattle.std.proofs.lemmas.List.Elements.{All-from_recursion}
use Rattle.std.proofs.lemmas.List.Splits.{slice_split_none, slice_split_at, slice_split-cons_no, slice_split-cons_yes}
use Rattle.byte_lines.specs.Bytes.{is_blank, newline}
use Rattle.byte_lines.specs.Lines.{lines_of}
use Rattle.dreq_pacing.specs.Fields.{Rest, before_comment, before_newline, ends_fields, fields_of, has_bytes, is_over, lines_after, no_fields, number_sign, starts_blank, parted, parts_fields, rest_of, with_field, with_part}

-- no byte of it parts fields
abbrev pub IsWord : List ℕ → Type 0
IsWord text = AllByRecursion (λ b. parts_fields b ≡ false) text

word-append : (text : List ℕ) (b : ℕ) → IsWord text → parts_fields b ≡ false → IsWord (text ++ b ∷ [])
word-append [] b h e = (e, tt)
word-append (x ∷ xs) b h e = (h.0, word-append xs b h.1 e)

pub word_more : (text : List ℕ) (i : ℕ) → i < length text → parts_fields (get_or text i 0) ≡ false → IsWord (take i text) → IsWord (take (i + 1) text)
word_more text i lt e h = subst IsWord (sym (take_more text i 0 lt)) (word-append (take i text) (get_or text i 0) h e)

no_blank : (text : List ℕ) → IsWord text → AllByRecursion (λ b. is_blank b ≡ false) text
no_blank [] h = tt
no_blank (x ∷ xs) h = ((or_parts (is_blank x) (ends_fields x) h.0).0, no_blank xs h.1)

not_newline : (b : ℕ) → parts_fields b ≡ false → (b == newline) ≡ false
not_newline b e = (or_parts (b == newline) (b == number_sign) (or_parts (is_blank b) (ends_fields b) e).1).0

not_sign : (b : ℕ) → parts_fields b ≡ false → (b == number_sign) ≡ false
not_sign b e = (or_parts (b == newline) (b == number_sign) (or_parts (is_blank b) (ends_fields b) e).1).1

comment-later : (b : ℕ) (rest : List ℕ) → (b == number_sign) ≡ false → before_comment (b ∷ rest) ≡ b ∷ before_comment rest
comment-later b rest e = ap (λ (t : Bool). cond t [] (b ∷ before_comment rest)) e

line-later : (b : ℕ) (rest : List ℕ) → (b == newline) ≡ false → before_newline (b ∷ rest) ≡ b ∷ before_newline rest
line-later b rest e = ap (λ (t : Bool). cond t [] (b ∷ before_newline rest)) e

lines-later : (b : ℕ) (rest : List ℕ) → (b == newline) ≡ false → lines_after (b ∷ rest) ≡ lines_after rest
lines-later b rest e = ap (λ (t : Bool). cond t (lines_of rest) (lines_after rest)) e

-- a word goes on to neither a comment nor another line
comment-after : (word rest : List ℕ) → IsWord word → before_comment (word ++ rest) ≡ word ++ before_comment rest
comment-after [] rest h = refl
comment-after (x ∷ xs) rest h = comment-later x (xs ++ rest) (not_sign x h.0) ∙ ap (λ (bs : List ℕ). x ∷ bs) (comment-after xs rest h.1)

line-after : (word rest : List ℕ) → IsWord word → before_newline (word ++ rest) ≡ word ++ before_newline rest
line-after [] rest h = refl
line-after (x ∷ xs) rest h = line-later x (xs ++ rest) (not_newline x h.0) ∙ ap (λ (bs : List ℕ). x ∷ bs) (line-after xs rest h.1)

lines-after : (word rest : List ℕ) → IsWord word → lines_after (word ++ rest) ≡ lines_after rest
lines-after [] rest h = refl
lines-after (x ∷ xs) rest h = lines-later x (xs ++ rest) (not_newline x h.0) ∙ lines-after xs rest h.1

abbrev rest_by : List (List ℕ) → List (List ℕ) → Rest
rest_by fields left = record { fields = fields; left = left }

-- what is left from a word on
word-rest : (word rest : List ℕ) → IsWord word → rest_of (word ++ rest) ≡ rest_by (parted (word ++ before_comment (before_newline rest))) (lines_after rest)
word-rest word rest h =
    ap (λ (left : List (List ℕ)). rest_by (fields_of (before_newline (word ++ rest))) left) (lines-after word rest h)
    ∙ ap (λ (text : List ℕ). rest_by (parted text) (lines_after rest)) (ap before_comment (line-after word rest h) ∙ comment-after word (before_newline rest) h)

parted-word : (word : List ℕ) → IsWord word → parted word ≡ with_field word []
parted-word word h = ap (filter has_bytes) (slice_split_none is_blank word (All-from_recursion (λ b. is_blank b ≡ false) word (no_blank word h)))

-- a word without a field after it
word-last : (word rest : List ℕ) → IsWord word → before_comment (before_newline rest) ≡ [] → rest_of (word ++ rest) ≡ with_part word (rest_of rest)
word-last word rest h none =
    word-rest word rest h
    ∙ (ap (λ (text : List ℕ). rest_by (parted (word ++ text)) (lines_after rest)) none
    ∙ (ap (λ (text : List ℕ). rest_by (parted text) (lines_after rest)) (append-nil word)
    ∙ (ap (λ (fields : List (List ℕ)). rest_by fields (lines_after rest)) (parted-word word h)
    ∙ sym (ap (λ (text : List ℕ). with_part word (rest_by (parted text) (lines_after rest))) none))))

blank-apart : (b : ℕ) → is_blank b ≡ true → ((b == newline) ≡ false) × ((b == number_sign) ≡ false)
blank-apart b e = (grind (arith, nat_tests), grind (arith, nat_tests))

-- a word before a blank
word-blank : (word : List ℕ) (b : ℕ) (rest : List ℕ) → IsWord word → is_blank b ≡ true → rest_of (word ++ b ∷ rest) ≡ with_part word (rest_of rest)
word-blank word b rest h e =
    let apart = blank-apart b e in
    let line = before_comment (before_newline rest) in
    word-rest word (b ∷ rest) h
    ∙ (ap (λ (left : List (List ℕ)). rest_by (parted (word ++ before_comment (before_newline (b ∷ rest)))) left) (lines-later b rest apart.0)
    ∙ (ap (λ (text : List ℕ). rest_by (parted (word ++ text)) (lines_after rest)) (ap before_comment (line-later b rest apart.0) ∙ comment-later b (before_newline rest) apart.1)
    ∙ ap (λ (parts : List (List ℕ)). rest_by (filter has_bytes parts) (lines_after rest)) (slice_split_at is_blank word b line (All-from_recursion (λ b. is_blank b ≡ false) word (no_blank word h)) e)))

pub blank_rest : (b : ℕ) (rest : List ℕ) → is_blank b ≡ true → rest_of (b ∷ rest) ≡ rest_of rest
blank_rest b rest e = word-blank [] b rest tt e

-- no field is left from these bytes on
over-none : (b : ℕ) (rest : List ℕ) → ends_fields b ≡ true → before_comment (before_newline (b ∷ rest)) ≡ []
over-none b rest e =
    elim (cases_eq b newline) [
      | inl same ↦ (let yes : (b == newline) ≡ true = grind (arith, nat_tests) in
          ap (λ (t : Bool). before_comment (cond t [] (b ∷ before_newline rest))) yes)
      | inr other ↦ (let none : (b == newline) ≡ false = grind (arith, nat_tests) in
          ap before_comment (line-later b rest none)
          ∙ ap (λ (t : Bool). cond t [] (b ∷ before_comment (before_newline rest))) (ap (λ (t : Bool). t || b == number_sign) (sym none) ∙ e))
    ]

opened : (text : List ℕ) (i : ℕ) → i < length text → text ≡ take i text ++ get_or text i 0 ∷ drop (i + 1) text
opened text i lt =
    sym (take-append-drop i text) ∙ ap (λ (xs : List ℕ). take i text ++ xs) (at_drop_more (λ (xs : List ℕ). xs) text i 0 lt)

here : (text : List ℕ) (i : ℕ) → i < length text → drop i text ≡ get_or text i 0 ∷ drop (i + 1) text
here text i lt = at_drop_more (λ (xs : List ℕ). xs) text i 0 lt

-- one blank less
pub blank_less : (text : List ℕ) (i : ℕ) (all : Rest) → i < length text → is_blank (get_or text i 0) ≡ true → rest_of (drop i text) ≡ all → rest_of (drop (i + 1) text) ≡ all
blank_less text i all lt e whole =
    sym (blank_rest (get_or text i 0) (drop (i + 1) text) e) ∙ (sym (ap rest_of (here text i lt)) ∙ whole)

pub no_blank_here : (text : List ℕ) (i : ℕ) → i < length text → is_blank (get_or text i 0) ≡ false → starts_blank (drop i text) ≡ false
no_blank_here text i lt e = ap starts_blank (here text i lt) ∙ e

-- a word before a byte that parts fields
pub part_ended : (text : List ℕ) (i : ℕ) → i < length text → parts_fields (get_or text i 0) ≡ true → IsWord (take i text) → rest_of text ≡ with_part (take i text) (rest_of (drop i text))
part_ended text i lt e h =
    let b = get_or text i 0 in
    let word = take i text in
    let after = drop (i + 1) text in
    elim (cases_Bool (is_blank b)) [
      | inl found ↦ (
          ap rest_of (opened text i lt)
          ∙ (word-blank word b after h found
          ∙ sym (ap (λ (xs : List ℕ). with_part word (rest_of xs)) (here text i lt) ∙ ap (with_part word) (blank_rest b after found))))
      | inr none ↦ (
          let over : ends_fields b ≡ true = ap (λ (t : Bool). t || ends_fields b) (sym none) ∙ e in
          ap rest_of (opened text i lt)
          ∙ (word-last word (b ∷ after) h (over-none b after over)
          ∙ sym (ap (λ (xs : List ℕ). with_part word (rest_of xs)) (here text i lt))))
    ]

-- a word that the text ends
pub part_last : (text : List ℕ) (i : ℕ) → length text ≤ i → IsWord (take i text) → rest_of text ≡ with_part text (rest_of [])
part_last text i le h =
    let whole : IsWord text = subst IsWord (take_all i text le) h in
    ap rest_of (sym (append-nil text)) ∙ word-last text [] whole refl

-- no word before a byte that is no blank
pub part_none : (text : List ℕ) (i : ℕ) → i < length text → parts_fields (get_or text i 0) ≡ true → starts_blank text ≡ false → length (take i text) ≡ 0 → (rest_of text).fields ≡ []
part_none [] i lt e some none = absurd (omega arith)
part_none (b ∷ bs) zero lt e some none =
    ap parted (over-none b bs (ap (λ (t : Bool). t || ends_fields b) (sym some) ∙ e))
part_none (b ∷ bs) (suc i) lt e some none = absurd (let size = length-take (suc i) (b ∷ bs) in omega arith)

pub nothing_left : (text : List ℕ) → length text ≡ 0 → (rest_of text).fields ≡ []
nothing_left [] e = refl
nothing_left (b ∷ bs) e = absurd (omega arith)

-- the part that a byte begins is a field
some_field : (b : ℕ) (parts : List (List ℕ)) → no_fields (filter has_bytes (onto_first b parts)) ≡ false
some_field b [] = refl
some_field b (part ∷ parts) = refl

pub over_is : (text : List ℕ) → starts_blank text ≡ false → no_fields (rest_of text).fields ≡ is_over text
over_is [] some = refl
over_is (b ∷ bs) some =
    elim (cases_Bool (ends_fields b)) [
      | inl found ↦ (ap (λ (line : List ℕ). no_fields (parted line)) (over-none b bs found) ∙ sym found)
      | inr none ↦ (
          let word : parts_fields b ≡ false = ap (λ (t : Bool). t || ends_fields b) some ∙ none in
          let rest = before_newline bs in
          ap (λ (line : List ℕ). no_fields (fields_of line)) (line-later b bs (not_newline b word))
          ∙ (ap (λ (line : List ℕ). no_fields (parted line)) (comment-later b rest (not_sign b word))
          ∙ (ap (λ (parts : List (List ℕ)). no_fields (filter has_bytes parts)) (slice_split-cons_no is_blank b (before_comment rest) some)
          ∙ (some_field b _ ∙ sym none))))
    ]

-- the lines of a text are its first line and those after
pub lines-opened : (text : List ℕ) → lines_of text ≡ before_newline text ∷ lines_after text
lines-opened [] = refl
lines-opened (b ∷ bs) =
    elim (cases_Bool (b == newline)) [
      | inl found ↦ (slice_split-cons_yes (λ c. c == newline) b bs found
          ∙ sym (ap (λ (t : Bool). cond t [] (b ∷ before_newline bs) ∷ cond t (lines_of bs) (lines_after bs)) found))
      | inr none ↦ (slice_split-cons_no (λ c. c == newline) b bs none
          ∙ (ap (onto_first b) (lines-opened bs)
          ∙ sym (ap (λ (t : Bool). cond t [] (b ∷ before_newline bs) ∷ cond t (lines_of bs) (lines_after bs)) none)))
    ]
