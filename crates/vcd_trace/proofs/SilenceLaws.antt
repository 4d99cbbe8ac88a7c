-- Where no value has a line, the two samples are one, or the two of each block.
use Rattle.std.proofs.Common.{◌≡◌, ℕ, ◌+◌, ◌/◌, ◌%◌, ◌^◌, ◌<◌, Bool, true, false, cond, eqb, List, [], ◌∷◌, ◌++◌, zero, suc, length, refl, sym, ap, ◌∙◌, arith, eq-eqb, length-append}
use Rattle.std.specs.Prelude.{◌&&◌}
use borrow.Author.Tests.{eqb-true}
use Rattle.block_core.specs.declared.sample.Sample.{Sample}
use Rattle.block_core.specs.Sample.{bits_of, values_of, same_numbers, same_sample}
use Rattle.vcd_trace.specs.Shows.{IsSample, AreSamples}
use Rattle.vcd_trace.specs.VcdText.{widths, variables, bit_line, vector_line, value_line, change_lines, changes_over}
use Rattle.vcd_trace.specs.TwinText.{same_samples, twin_changes_text}
use Rattle.vcd_trace.specs.Groups.{vectors_of}
use Rattle.vcd_trace.proofs.Digits.{half_fits}
use Rattle.vcd_trace.proofs.ChangesLaws.{length-bits_of, values-groups}
use Rattle.vcd_trace.proofs.ToldLaws.{and_true, same_numbers-self}

-- a value's line has bytes
line_some : (t : Bool) (id v : ℕ) (later : List ℕ) → cond t (bit_line id v) (vector_line id v) ++ later ≡ [] → ⊥
line_some true id v later h = cc
line_some false id v later h = cc

-- where a value has no line, it is what it was
same_value : (t : Bool) (a b : ℕ) (line later : List ℕ) → eqb a b ≡ t → (line ++ later ≡ [] → ⊥) → cond t [] line ++ later ≡ [] → (a ≡ b) × (later ≡ [])
same_value true a b line later e some h = (eqb-true a b e, h)
same_value false a b line later e some h = absurd (some h)

-- where no value has a line, all are what they were
pub change_lines-none : (id : ℕ) (ws before now : List ℕ) → length before ≡ length ws → length now ≡ length ws → change_lines id ws before now ≡ [] → before ≡ now
change_lines-none id [] [] [] e f h = refl
change_lines-none id [] (a ∷ before) now e f h = absurd (omega arith)
change_lines-none id [] [] (b ∷ now) e f h = absurd (omega arith)
change_lines-none id (w ∷ ws) [] now e f h = absurd (omega arith)
change_lines-none id (w ∷ ws) (a ∷ before) [] e f h = absurd (omega arith)
change_lines-none id (w ∷ ws) (a ∷ before) (b ∷ now) e f h =
    let t = same_value (eqb a b) a b (value_line w id b) (change_lines (id + 1) ws before now) refl (line_some (eqb w 1) id b (change_lines (id + 1) ws before now)) h in
    let first : a ≡ b = t.0 in
    let rest : before ≡ now = change_lines-none (id + 1) ws before now (omega arith) (omega arith) t.1 in
    cc

-- a number is known by its bits
pub bits_of-same : (k x y : ℕ) → x < 2 ^ k → y < 2 ^ k → bits_of k x ≡ bits_of k y → x ≡ y
unfolding bits_of
bits_of-same zero x y h k e = omega arith
bits_of-same (suc n) x y h k e =
    let bit : x % 2 ≡ y % 2 = cc in
    let later : bits_of n (x / 2) ≡ bits_of n (y / 2) = cc in
    let halves : x / 2 ≡ y / 2 = bits_of-same n (x / 2) (y / 2) (half_fits n (suc n) x (omega arith) h) (half_fits n (suc n) y (omega arith) k) later in
    omega arith

-- equal joins of lists whose first parts are equally long have equal parts
parts_same : (a a' b b' : List ℕ) → length a ≡ length a' → a ++ b ≡ a' ++ b' → (a ≡ a') × (b ≡ b')
parts_same [] [] b b' e h = (refl, h)
parts_same [] (y ∷ a') b b' e h = absurd (omega arith)
parts_same (x ∷ a) [] b b' e h = absurd (omega arith)
parts_same (x ∷ a) (y ∷ a') b b' e h =
    let first : x ≡ y = cc in
    let rest : a ++ b ≡ a' ++ b' = cc in
    let t = parts_same a a' b b' (omega arith) rest in
    let s : a ≡ a' = t.0 in
    (cc, t.1)

pub same_numbers-from : (xs ys : List ℕ) → xs ≡ ys → same_numbers xs ys ≡ true
same_numbers-from xs ys e = ap (λ t. same_numbers xs t) (sym e) ∙ same_numbers-self xs

-- samples with the same values are the same
pub same_sample-from : (a b : Sample) → IsSample a → IsSample b → values_of a ≡ values_of b → same_sample a b ≡ true
same_sample-from a b h k e =
    let grouped : bits_of 32 a.level ++ (bits_of 32 a.direction ++ (bits_of 8 a.flags ++ vectors_of a)) ≡ bits_of 32 b.level ++ (bits_of 32 b.direction ++ (bits_of 8 b.flags ++ vectors_of b)) = sym (values-groups a) ∙ e ∙ values-groups b in
    let l = parts_same (bits_of 32 a.level) (bits_of 32 b.level) _ _ (length-bits_of 32 a.level ∙ sym (length-bits_of 32 b.level)) grouped in
    let d = parts_same (bits_of 32 a.direction) (bits_of 32 b.direction) _ _ (length-bits_of 32 a.direction ∙ sym (length-bits_of 32 b.direction)) l.1 in
    let f = parts_same (bits_of 8 a.flags) (bits_of 8 b.flags) _ _ (length-bits_of 8 a.flags ∙ sym (length-bits_of 8 b.flags)) d.1 in
    let v = parts_same (a.tx ++ a.rx ++ a.got) (b.tx ++ b.rx ++ b.got) a.sticky b.sticky (omega (arith, length-append (a.tx ++ a.rx) a.got, length-append a.tx a.rx, length-append (b.tx ++ b.rx) b.got, length-append b.tx b.rx, h.tx, h.rx, h.got, k.tx, k.rx, k.got)) f.1 in
    let g = parts_same (a.tx ++ a.rx) (b.tx ++ b.rx) a.got b.got (omega (arith, length-append a.tx a.rx, length-append b.tx b.rx, h.tx, h.rx, k.tx, k.rx)) v.0 in
    let t = parts_same a.tx b.tx a.rx b.rx (h.tx ∙ sym k.tx) g.0 in
    and_true _ _ (eq-eqb _ _ (bits_of-same 32 a.level b.level h.level k.level l.0))
    (and_true _ _ (eq-eqb _ _ (bits_of-same 32 a.direction b.direction h.direction k.direction d.0))
    (and_true _ _ (eq-eqb _ _ (bits_of-same 8 a.flags b.flags h.flags k.flags f.0))
    (and_true _ _ (same_numbers-from a.tx b.tx t.0) (and_true _ _ (same_numbers-from a.rx b.rx t.1)
    (and_true _ _ (same_numbers-from a.got b.got g.1) (same_numbers-from a.sticky b.sticky v.1))))))

length-values_of : (s : Sample) → IsSample s → length (values_of s) ≡ length widths
unfolding widths variables
length-values_of s h =
    let l : List ℕ = bits_of 32 s.level in
    let d : List ℕ = bits_of 32 s.direction in
    let f : List ℕ = bits_of 8 s.flags in
    let all : length (l ++ d ++ f ++ s.tx ++ s.rx ++ s.got ++ s.sticky) ≡ 88 = omega (
      arith,
      length-append (l ++ d ++ f ++ s.tx ++ s.rx ++ s.got) s.sticky,
      length-append (l ++ d ++ f ++ s.tx ++ s.rx) s.got,
      length-append (l ++ d ++ f ++ s.tx) s.rx,
      length-append (l ++ d ++ f) s.tx,
      length-append (l ++ d) f,
      length-append l d,
      length-bits_of 32 s.level,
      length-bits_of 32 s.direction,
      length-bits_of 8 s.flags,
      h.tx,
      h.rx,
      h.got,
      h.sticky,
    ) in
    all

-- samples that differ have a line between them
pub changes_over-some : (more : ℕ) (a b : Sample) → IsSample a → IsSample b → same_sample a b ≡ false → changes_over more a b ≡ [] → ⊥
unfolding changes_over
changes_over-some more a b h k differ none =
    let same : same_sample a b ≡ true = same_sample-from a b h k (change_lines-none (33 + more) widths (values_of a) (values_of b) (length-values_of a h) (length-values_of b k) none) in
    cc

-- a join that is empty has empty parts
pub first_none : (x y : List ℕ) → x ++ y ≡ [] → x ≡ []
first_none [] y h = refl
first_none (a ∷ x) y h = cc

pub last_none : (x y : List ℕ) → x ++ y ≡ [] → y ≡ []
last_none [] y h = h
last_none (a ∷ x) y h = cc

-- one of two is false
pub one_false : (x y : Bool) → (x && y) ≡ false → (x ≡ true → y ≡ false)
one_false true y h e = h
one_false false y h e = cc

-- no line of the first block, so the second has one
twin_some : (t : Bool) (a b : Sample × Sample) → same_sample a.0 b.0 ≡ t → AreSamples a → AreSamples b → same_samples a b ≡ false → twin_changes_text a b ≡ [] → ⊥
twin_some true a b e h k differ none =
    changes_over-some 128 a.1 b.1 h.second k.second (one_false _ _ differ e) (last_none (changes_over 0 a.0 b.0) (changes_over 128 a.1 b.1) none)
twin_some false a b e h k differ none =
    changes_over-some 0 a.0 b.0 h.first k.first e (first_none (changes_over 0 a.0 b.0) (changes_over 128 a.1 b.1) none)

pub twin_changes-some : (a b : Sample × Sample) → AreSamples a → AreSamples b → same_samples a b ≡ false → twin_changes_text a b ≡ [] → ⊥
twin_changes-some a b = twin_some (same_sample a.0 b.0) a b refl
