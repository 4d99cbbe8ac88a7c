-- The text of the changes, and that of a dump, by its groups.
use Rattle.std.specs.Prelude.{◌&&◌}
use Rattle.std.proofs.Common.{◌≡◌, ℕ, ◌+◌, ◌/◌, Bool, true, false, cond, eqb, List, [], ◌∷◌, ◌++◌, zero, suc, length, refl, sym, ap, ◌∙◌, append_assoc, append-nil, arith, eq-eqb, length-append}
use borrow.Author.Tests.{eqb-true}
use Rattle.std.specs.Prelude.{replicate, codes}
use Rattle.std.proofs.lemmas.List.{length-replicate}
use Rattle.block_core.specs.declared.sample.Sample.{Sample}
use Rattle.block_core.specs.Sample.{bits_of, same_numbers, values_of}
use Rattle.vcd_trace.specs.VcdText.{variables, widths, bit_line, vector_line, value_lines, change_lines, changes_over, values_over, dump_text}
use Rattle.vcd_trace.specs.TwinText.{twin_dump_text}
use Rattle.vcd_trace.specs.Groups.{bit_lines, bit_changes, same_rest, same_words, vector_lines, vector_changes, vectors_of}
use Rattle.vcd_trace.proofs.TextLaws.{bit_changes-same, change_lines-append, value_lines-append}

pub length-bits_of : (k n : ℕ) → length (bits_of k n) ≡ k
unfolding bits_of
length-bits_of zero n = refl
length-bits_of (suc k) n = ap suc (length-bits_of k (n / 2))

-- all widths are above 1, or 0
abbrev all_vectors : List ℕ → Bool
all_vectors [] = true
all_vectors (w ∷ ws) = cond (eqb w 1) false (all_vectors ws)

vector_from : (t : Bool) (a b : List ℕ) (more : Bool) → cond t false more ≡ true → (cond t a b ≡ b) × (more ≡ true)
vector_from true a b more h = cc
vector_from false a b more h = (refl, h)

pub change_lines-vectors : (id : ℕ) (ws before now : List ℕ) → all_vectors ws ≡ true → length before ≡ length ws → length now ≡ length ws → change_lines id ws before now ≡ vector_changes id before now
change_lines-vectors id [] [] [] h e f = refl
change_lines-vectors id [] (a ∷ before) now h e f = absurd (omega arith)
change_lines-vectors id [] [] (b ∷ now) h e f = absurd (omega arith)
change_lines-vectors id (w ∷ ws) [] now h e f = absurd (omega arith)
change_lines-vectors id (w ∷ ws) (a ∷ before) [] h e f = absurd (omega arith)
change_lines-vectors id (w ∷ ws) (a ∷ before) (b ∷ now) h e f =
    let t = vector_from (eqb w 1) (bit_line id b) (vector_line id b) (all_vectors ws) h in
    ap (λ line. cond (eqb a b) [] line ++ change_lines (id + 1) ws before now) t.0
    ∙ ap (λ later. cond (eqb a b) [] (vector_line id b) ++ later) (change_lines-vectors (id + 1) ws before now t.1 (omega arith) (omega arith))

pub value_lines-vectors : (id : ℕ) (ws now : List ℕ) → all_vectors ws ≡ true → length now ≡ length ws → value_lines id ws now ≡ vector_lines id now
value_lines-vectors id [] [] h f = refl
value_lines-vectors id [] (b ∷ now) h f = absurd (omega arith)
value_lines-vectors id (w ∷ ws) [] h f = absurd (omega arith)
value_lines-vectors id (w ∷ ws) (b ∷ now) h f =
    let t = vector_from (eqb w 1) (bit_line id b) (vector_line id b) (all_vectors ws) h in
    ap (λ line. line ++ value_lines (id + 1) ws now) t.0
    ∙ ap (λ later. vector_line id b ++ later) (value_lines-vectors (id + 1) ws now t.1 (omega arith))

-- the widths of the variables of more than one bit
abbrev vector_widths : List ℕ
vector_widths = 4 ∷ 4 ∷ 4 ∷ 4 ∷ 4 ∷ 4 ∷ 4 ∷ 4 ∷ 32 ∷ 32 ∷ 32 ∷ 32 ∷ 4 ∷ 4 ∷ 4 ∷ 4 ∷ []

widths-groups : widths ≡ replicate 32 1 ++ (replicate 32 1 ++ (replicate 8 1 ++ vector_widths))
unfolding widths variables
widths-groups = refl

pub values-groups : (s : Sample) → values_of s ≡ bits_of 32 s.level ++ (bits_of 32 s.direction ++ (bits_of 8 s.flags ++ vectors_of s))
values-groups s = simp append_assoc

-- one group of changed bits, then the others
bits_then : (id count before now : ℕ) (ws a b : List ℕ) → change_lines id (replicate count 1 ++ ws) (bits_of count before ++ a) (bits_of count now ++ b) ≡ bit_changes id count before now ++ change_lines (id + count) ws a b
unfolding bit_changes
bits_then id count before now ws a b =
    change_lines-append id (replicate count 1) ws (bits_of count before) a (bits_of count now) b (length-bits_of count before ∙ sym (length-replicate count 1)) (length-bits_of count now ∙ sym (length-replicate count 1))
    ∙ ap (λ n. change_lines id (replicate count 1) (bits_of count before) (bits_of count now) ++ change_lines (id + n) ws a b) (length-replicate count 1)

-- the numbers of the groups
on_32 : (more : ℕ) → 33 + more + 32 ≡ 65 + more
on_32 more = omega arith

on_64 : (more : ℕ) → 65 + more + 32 ≡ 97 + more
on_64 more = omega arith

on_72 : (more : ℕ) → 97 + more + 8 ≡ 105 + more
on_72 more = omega arith

pub changes-groups : (more : ℕ) (a b : Sample) → length (vectors_of a) ≡ 16 → length (vectors_of b) ≡ 16 → changes_over more a b ≡ bit_changes (33 + more) 32 a.level b.level ++ (bit_changes (65 + more) 32 a.direction b.direction ++ (bit_changes (97 + more) 8 a.flags b.flags ++ vector_changes (105 + more) (vectors_of a) (vectors_of b)))
unfolding changes_over
changes-groups more a b h k =
    let flags_widths = replicate 8 1 ++ vector_widths in
    let flags_a = bits_of 8 a.flags ++ vectors_of a in
    let flags_b = bits_of 8 b.flags ++ vectors_of b in
    let ws = replicate 32 1 ++ (replicate 32 1 ++ flags_widths) in
    ap (λ ws. change_lines (33 + more) ws (values_of a) (values_of b)) widths-groups
    ∙ ap (λ v. change_lines (33 + more) ws v (values_of b)) (values-groups a)
    ∙ ap (λ v. change_lines (33 + more) ws (bits_of 32 a.level ++ (bits_of 32 a.direction ++ flags_a)) v) (values-groups b)
    ∙ bits_then (33 + more) 32 a.level b.level (replicate 32 1 ++ flags_widths) (bits_of 32 a.direction ++ flags_a) (bits_of 32 b.direction ++ flags_b)
    ∙ ap (λ x. bit_changes (33 + more) 32 a.level b.level ++ x)
    (ap (λ id. change_lines id (replicate 32 1 ++ flags_widths) (bits_of 32 a.direction ++ flags_a) (bits_of 32 b.direction ++ flags_b)) (on_32 more)
    ∙ bits_then (65 + more) 32 a.direction b.direction flags_widths flags_a flags_b
    ∙ ap (λ x. bit_changes (65 + more) 32 a.direction b.direction ++ x)
    (ap (λ id. change_lines id flags_widths flags_a flags_b) (on_64 more)
    ∙ bits_then (97 + more) 8 a.flags b.flags vector_widths (vectors_of a) (vectors_of b)
    ∙ ap (λ x. bit_changes (97 + more) 8 a.flags b.flags ++ x)
    (ap (λ id. change_lines id vector_widths (vectors_of a) (vectors_of b)) (on_72 more) ∙ change_lines-vectors (105 + more) vector_widths (vectors_of a) (vectors_of b) refl h k)))

-- one group of bits, then the others
lines_then : (id count now : ℕ) (ws b : List ℕ) → value_lines id (replicate count 1 ++ ws) (bits_of count now ++ b) ≡ bit_lines id count now ++ value_lines (id + count) ws b
unfolding bit_lines
lines_then id count now ws b =
    value_lines-append id (replicate count 1) ws (bits_of count now) b (length-bits_of count now ∙ sym (length-replicate count 1))
    ∙ ap (λ n. value_lines id (replicate count 1) (bits_of count now) ++ value_lines (id + n) ws b) (length-replicate count 1)

pub values-text : (more : ℕ) (s : Sample) → length (vectors_of s) ≡ 16 → values_over more s ≡ bit_lines (33 + more) 32 s.level ++ (bit_lines (65 + more) 32 s.direction ++ (bit_lines (97 + more) 8 s.flags ++ vector_lines (105 + more) (vectors_of s)))
unfolding values_over
values-text more s h =
    let flags_widths = replicate 8 1 ++ vector_widths in
    let flags = bits_of 8 s.flags ++ vectors_of s in
    ap (λ ws. value_lines (33 + more) ws (values_of s)) widths-groups
    ∙ ap (λ v. value_lines (33 + more) (replicate 32 1 ++ (replicate 32 1 ++ flags_widths)) v) (values-groups s)
    ∙ lines_then (33 + more) 32 s.level (replicate 32 1 ++ flags_widths) (bits_of 32 s.direction ++ flags)
    ∙ ap (λ x. bit_lines (33 + more) 32 s.level ++ x)
    (ap (λ id. value_lines id (replicate 32 1 ++ flags_widths) (bits_of 32 s.direction ++ flags)) (on_32 more)
    ∙ lines_then (65 + more) 32 s.direction flags_widths flags
    ∙ ap (λ x. bit_lines (65 + more) 32 s.direction ++ x)
    (ap (λ id. value_lines id flags_widths flags) (on_64 more)
    ∙ lines_then (97 + more) 8 s.flags vector_widths (vectors_of s)
    ∙ ap (λ x. bit_lines (97 + more) 8 s.flags ++ x)
    (ap (λ id. value_lines id vector_widths (vectors_of s)) (on_72 more) ∙ value_lines-vectors (105 + more) vector_widths (vectors_of s) refl h)))

-- the dump's first line, its values, its last line
pub dump-parts : (s : Sample) → dump_text s ≡ codes "$dumpvars\n" ++ (values_over 0 s ++ codes "$end\n")
unfolding dump_text
dump-parts s = append_assoc (codes "$dumpvars\n") (values_over 0 s) (codes "$end\n")

pub twin_dump-parts : (s : Sample × Sample) → twin_dump_text s ≡ codes "$dumpvars\n" ++ (values_over 0 s.0 ++ (values_over 128 s.1 ++ codes "$end\n"))
unfolding twin_dump_text
twin_dump-parts s =
    append_assoc (codes "$dumpvars\n" ++ values_over 0 s.0) (values_over 128 s.1) (codes "$end\n")
    ∙ append_assoc (codes "$dumpvars\n") (values_over 0 s.0) (values_over 128 s.1 ++ codes "$end\n")

-- values that are what they were have no lines
pub vector_changes-none : (id : ℕ) (words : List ℕ) → vector_changes id words words ≡ []
vector_changes-none id [] = refl
vector_changes-none id (w ∷ words) = ap (λ t. cond t [] (vector_line id w) ++ vector_changes (id + 1) words words) (eq-eqb w w refl) ∙ vector_changes-none (id + 1) words

-- both of two are true
pub both_true : (a b : Bool) → (a && b) ≡ true → (a ≡ true) × (b ≡ true)
both_true true b h = (refl, h)
both_true false b h = cc

-- lists of the same numbers are one
pub same_numbers-equal : (xs ys : List ℕ) → same_numbers xs ys ≡ true → xs ≡ ys
same_numbers-equal [] [] h = refl
same_numbers-equal [] (y ∷ ys) h = cc
same_numbers-equal (x ∷ xs) [] h = cc
same_numbers-equal (x ∷ xs) (y ∷ ys) h =
    let t = both_true (eqb x y) (same_numbers xs ys) h in
    let first : x ≡ y = eqb-true x y t.0 in
    let rest : xs ≡ ys = same_numbers-equal xs ys t.1 in
    cc

-- samples that agree in their words add no lines of words
pub same_words-none : (id : ℕ) (a b : Sample) → same_words a b ≡ true → vector_changes id (vectors_of a) (vectors_of b) ≡ []
same_words-none id a b h =
    let g = both_true (same_numbers a.got b.got) (same_numbers a.tx b.tx && (same_numbers a.rx b.rx && same_numbers a.sticky b.sticky)) h in
    let t = both_true (same_numbers a.tx b.tx) (same_numbers a.rx b.rx && same_numbers a.sticky b.sticky) g.1 in
    let r = both_true (same_numbers a.rx b.rx) (same_numbers a.sticky b.sticky) t.1 in
    let got : a.got ≡ b.got = same_numbers-equal a.got b.got g.0 in
    let tx : a.tx ≡ b.tx = same_numbers-equal a.tx b.tx t.0 in
    let rx : a.rx ≡ b.rx = same_numbers-equal a.rx b.rx r.0 in
    let sticky : a.sticky ≡ b.sticky = same_numbers-equal a.sticky b.sticky r.1 in
    let same : vectors_of a ≡ vectors_of b = cc in
    ap (λ l. vector_changes id (vectors_of a) l) (sym same) ∙ vector_changes-none id (vectors_of a)

-- samples that agree in all but the levels add the lines of levels alone
pub same_rest-changes : (a b : Sample) → length (vectors_of a) ≡ 16 → length (vectors_of b) ≡ 16 → same_rest a b ≡ true → changes_over 0 a b ≡ bit_changes 33 32 a.level b.level
same_rest-changes a b h k e =
    let d = both_true (eqb a.direction b.direction) (eqb a.flags b.flags && same_words a b) e in
    let f = both_true (eqb a.flags b.flags) (same_words a b) d.1 in
    let directions : bit_changes 65 32 a.direction b.direction ≡ [] = ap (λ n. bit_changes 65 32 a.direction n) (sym (eqb-true _ _ d.0)) ∙ bit_changes-same 65 32 a.direction in
    let flags : bit_changes 97 8 a.flags b.flags ≡ [] = ap (λ n. bit_changes 97 8 a.flags n) (sym (eqb-true _ _ f.0)) ∙ bit_changes-same 97 8 a.flags in
    let words = same_words-none 105 a b f.1 in
    let levels = bit_changes 33 32 a.level b.level in
    changes-groups 0 a b h k
    ∙ ap (λ x. levels ++ (x ++ (bit_changes 97 8 a.flags b.flags ++ vector_changes 105 (vectors_of a) (vectors_of b)))) directions
    ∙ ap (λ x. levels ++ (x ++ vector_changes 105 (vectors_of a) (vectors_of b))) flags
    ∙ ap (λ x. levels ++ x) words
    ∙ append-nil levels

-- with the levels of the second, the first of such samples is the second
pub same_rest-equal : (a b : Sample) → same_rest a b ≡ true → record a { level = b.level } ≡ b
same_rest-equal a b e =
    let d = both_true (eqb a.direction b.direction) (eqb a.flags b.flags && same_words a b) e in
    let f = both_true (eqb a.flags b.flags) (same_words a b) d.1 in
    let g = both_true (same_numbers a.got b.got) (same_numbers a.tx b.tx && (same_numbers a.rx b.rx && same_numbers a.sticky b.sticky)) f.1 in
    let t = both_true (same_numbers a.tx b.tx) (same_numbers a.rx b.rx && same_numbers a.sticky b.sticky) g.1 in
    let r = both_true (same_numbers a.rx b.rx) (same_numbers a.sticky b.sticky) t.1 in
    let direction : a.direction ≡ b.direction = eqb-true _ _ d.0 in
    let flags : a.flags ≡ b.flags = eqb-true _ _ f.0 in
    let got : a.got ≡ b.got = same_numbers-equal a.got b.got g.0 in
    let tx : a.tx ≡ b.tx = same_numbers-equal a.tx b.tx t.0 in
    let rx : a.rx ≡ b.rx = same_numbers-equal a.rx b.rx r.0 in
    let sticky : a.sticky ≡ b.sticky = same_numbers-equal a.sticky b.sticky r.1 in
    let one : Sample = record { level = b.level; direction = a.direction; flags = a.flags; tx = a.tx; rx = a.rx; got = a.got; sticky = a.sticky } in
    let two : Sample = record { level = b.level; direction = b.direction; flags = b.flags; tx = b.tx; rx = b.rx; got = b.got; sticky = b.sticky } in
    let same : one ≡ two = cc in
    same

-- four words of each of four kinds
pub length-vectors_of : (s : Sample) → length s.tx ≡ 4 → length s.rx ≡ 4 → length s.got ≡ 4 → length s.sticky ≡ 4 → length (vectors_of s) ≡ 16
length-vectors_of s tx rx got sticky =
    omega (arith, length-append (s.tx ++ s.rx ++ s.got) s.sticky, length-append (s.tx ++ s.rx) s.got, length-append s.tx s.rx, tx, rx, got, sticky)
