-- What samples add to the text, one by one.
use Rattle.std.proofs.Common.{◌≡◌, ℕ, Bool, true, false, cond, eqb, Option, Some, None, List, [], ◌∷◌, ◌++◌, refl, ap, eq-eqb}
use Rattle.std.specs.Prelude.{◌&&◌}
use lib.Pointwise.{pointwise}
use borrow.Author.Tests.{eqb-true}
use Rattle.block_core.specs.declared.sample.Sample.{Sample}
use Rattle.block_core.specs.Sample.{same_numbers, same_sample}
use Rattle.vcd_trace.specs.TwinText.{twin_form, twin_changes_text, twin_step_text, same_samples}
use Rattle.vcd_trace.specs.TextForm.{added}
use Rattle.vcd_trace.specs.VcdText.{vcd_form, clock_line, step_text, shows_again, changes_text, changes_over}
use Rattle.vcd_trace.proofs.ChangesLaws.{both_true, same_numbers-equal}
use Rattle.vcd_trace.proofs.FormLaws.{AddsNothing}

pub and_true : (a b : Bool) → a ≡ true → b ≡ true → (a && b) ≡ true
and_true true b h k = k
and_true false b h k = cc

pub same_numbers-self : (xs : List ℕ) → same_numbers xs xs ≡ true
same_numbers-self [] = refl
same_numbers-self (x ∷ xs) = and_true (eqb x x) (same_numbers xs xs) (eq-eqb x x refl) (same_numbers-self xs)

-- a sample is the same as itself
pub same_sample-self : (s : Sample) → same_sample s s ≡ true
same_sample-self s =
    and_true _ _ (eq-eqb s.level s.level refl) (and_true _ _ (eq-eqb s.direction s.direction refl) (and_true _ _ (eq-eqb s.flags s.flags refl)
    (and_true _ _ (same_numbers-self s.tx) (and_true _ _ (same_numbers-self s.rx) (and_true _ _ (same_numbers-self s.got) (same_numbers-self s.sticky))))))

-- samples that show the same are the same
pub same_sample-equal : (a b : Sample) → same_sample a b ≡ true → a ≡ b
same_sample-equal a b h =
    let l = both_true (eqb a.level b.level) _ h in
    let d = both_true (eqb a.direction b.direction) _ l.1 in
    let f = both_true (eqb a.flags b.flags) _ d.1 in
    let t = both_true (same_numbers a.tx b.tx) _ f.1 in
    let r = both_true (same_numbers a.rx b.rx) _ t.1 in
    let g = both_true (same_numbers a.got b.got) (same_numbers a.sticky b.sticky) r.1 in
    let level : a.level ≡ b.level = eqb-true _ _ l.0 in
    let direction : a.direction ≡ b.direction = eqb-true _ _ d.0 in
    let flags : a.flags ≡ b.flags = eqb-true _ _ f.0 in
    let tx : a.tx ≡ b.tx = same_numbers-equal _ _ t.0 in
    let rx : a.rx ≡ b.rx = same_numbers-equal _ _ r.0 in
    let got : a.got ≡ b.got = same_numbers-equal _ _ g.0 in
    let sticky : a.sticky ≡ b.sticky = same_numbers-equal _ _ g.1 in
    let one : Sample = record { level = a.level; direction = a.direction; flags = a.flags; tx = a.tx; rx = a.rx; got = a.got; sticky = a.sticky } in
    let two : Sample = record { level = b.level; direction = b.direction; flags = b.flags; tx = b.tx; rx = b.rx; got = b.got; sticky = b.sticky } in
    let same : one ≡ two = cc in
    same

-- a sample that is shown again adds nothing, and is the last one
pub again-adds_nothing : (clock : ℕ) (last : Option Sample) (s : Sample) → shows_again last s ≡ true → (added vcd_form clock last s ≡ []) × (last ≡ Some s)
again-adds_nothing clock None s h = cc
again-adds_nothing clock (Some before) s h =
    (ap (λ t. cond t [] (clock_line clock ++ changes_text before s)) h, ap Some (same_sample-equal before s h))

pointwise-same : (xs ys : List ℕ) → pointwise eqb xs ys ≡ same_numbers xs ys
pointwise-same [] [] = refl
pointwise-same [] (y ∷ ys) = refl
pointwise-same (x ∷ xs) [] = refl
pointwise-same (x ∷ xs) (y ∷ ys) = ap (λ t. eqb x y && t) (pointwise-same xs ys)

-- what the derived comparison computes
abbrev pub derived_same : Sample → Sample → Bool
derived_same a b = eqb a.level b.level && (eqb a.direction b.direction && (eqb a.flags b.flags && (pointwise eqb a.tx b.tx && (pointwise eqb a.rx b.rx && (pointwise eqb a.got b.got && pointwise eqb a.sticky b.sticky)))))

pub derived_same-is : (a b : Sample) → derived_same a b ≡ same_sample a b
derived_same-is a b =
    let tx = pointwise-same a.tx b.tx in
    let rx = pointwise-same a.rx b.rx in
    let got = pointwise-same a.got b.got in
    let sticky = pointwise-same a.sticky b.sticky in
    cc

-- a clock whose sample differs adds its line and the changes
pub step_text-changed : (clock : ℕ) (a b : Sample) → same_sample a b ≡ false → step_text clock a b ≡ clock_line clock ++ changes_text a b
step_text-changed clock a b h = ap (λ t. cond t [] (clock_line clock ++ changes_text a b)) h

-- a sample that is repeated adds nothing
pub repeats_add-nothing : AddsNothing vcd_form
repeats_add-nothing clock s = ap (λ b. cond b [] (clock_line clock ++ changes_text s s)) (same_sample-self s)

-- the same of a pair
pub twin_repeats_add-nothing : AddsNothing twin_form
twin_repeats_add-nothing clock s =
    ap (λ b. cond b [] (clock_line clock ++ twin_changes_text s s)) (and_true _ _ (same_sample-self s.0) (same_sample-self s.1))

-- a clock of which one of the two samples differs adds its line and the changes of both
pub twin_step-changed : (clock : ℕ) (a b : Sample × Sample) → same_samples a b ≡ false → twin_step_text clock a b ≡ clock_line clock ++ (changes_over 0 a.0 b.0 ++ changes_over 128 a.1 b.1)
twin_step-changed clock a b h = ap (λ t. cond t [] (clock_line clock ++ twin_changes_text a b)) h
