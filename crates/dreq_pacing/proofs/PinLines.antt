-- Of the lines of a pin the last counts.
use Rattle.std.proofs.Common.{◌≡◌, ℕ, ◌-◌, ◌^◌, ◌<◌, ◌==◌, min, max, Bool, true, false, cond, Option, Some, None, List, [], ◌∷◌, refl, sym, ap, ◌∙◌, inl, inr, arith, w32}
use Rattle.std.specs.Int.{bit_at}
use Rattle.std.specs.List.{AllByRecursion}
use Rattle.std.proofs.lemmas.Bool.{cases_eq}
use Rattle.std.proofs.lemmas.Bool.Decides.{nat_tests}
use Rattle.std.proofs.Math.Pow.{pow-lt}
use Rattle.std.proofs.lemmas.Nat.Bits.{bit_at_or, bit_at_and, bit_at_not, bit_at-zero, bit_at-lt, bit_at-pow_same, bit_at-pow_other}
use Rattle.dreq_pacing.specs.declared.line.Line.{Line}
use Rattle.dreq_pacing.specs.declared.line.LineAct.{LineAct}
use Rattle.dreq_pacing.specs.declared.line.LineAct.TheVariants.{Pin, Tx, Rx, Feed, Drain, Enable, Disable, Restart}
use Rattle.dreq_pacing.specs.declared.due.Due.{Due}
use Rattle.dreq_pacing.specs.Lines.{IsLine, IsAct}
use Rattle.dreq_pacing.specs.Due.{quiet, with_pin, with_act, with_lines}
use Rattle.dreq_pacing.specs.Runs.{is_set, last_level, level_by, later_level, level_bit}

-- a bit that was so before, and the level of the last line
abbrev set_over : Option Bool → ℕ → ℕ
set_over None old = old
set_over (Some level) old = 1

abbrev level_over : Option Bool → ℕ → ℕ
level_over None old = old
level_over (Some level) old = cond level 1 0

-- what a line of a pin does to the bits of a pin
pin-set : (p pin : ℕ) (level : Bool) (d : Due) → bit_at (with_pin p level d).pins pin ≡ set_over (cond (p == pin) (Some level) None) (bit_at d.pins pin)
pin-set p pin level d =
    let was = bit_at-lt d.pins pin in
    bit_at_or d.pins (2 ^ p) pin
    ∙ elim (cases_eq p pin) [
      | inl same ↦ (let yes : (p == pin) ≡ true = grind (arith, nat_tests) in
          ap (λ (k : ℕ). max (bit_at d.pins pin) (bit_at (2 ^ k) pin)) same
          ∙ (ap (max (bit_at d.pins pin)) (bit_at-pow_same pin)
          ∙ (omega arith ∙ sym (ap (λ (b : Bool). set_over (cond b (Some level) None) (bit_at d.pins pin)) yes))))
      | inr other ↦ (let no : (p == pin) ≡ false = grind (arith, nat_tests) in
          ap (max (bit_at d.pins pin)) (bit_at-pow_other p pin (λ e. other (sym e)))
          ∙ (omega arith ∙ sym (ap (λ (b : Bool). set_over (cond b (Some level) None) (bit_at d.pins pin)) no)))
    ]

below_word : (p : ℕ) → p < 32 → 2 ^ p < 2 ^ 32
below_word p lt = pow-lt lt

pin-up : (p pin : ℕ) (d : Due) → bit_at (with_pin p true d).values pin ≡ level_over (cond (p == pin) (Some true) None) (bit_at d.values pin)
pin-up p pin d =
    let was = bit_at-lt d.values pin in
    bit_at_or d.values (2 ^ p) pin
    ∙ elim (cases_eq p pin) [
      | inl same ↦ (let yes : (p == pin) ≡ true = grind (arith, nat_tests) in
          ap (λ (k : ℕ). max (bit_at d.values pin) (bit_at (2 ^ k) pin)) same
          ∙ (ap (max (bit_at d.values pin)) (bit_at-pow_same pin)
          ∙ (omega arith ∙ sym (ap (λ (b : Bool). level_over (cond b (Some true) None) (bit_at d.values pin)) yes))))
      | inr other ↦ (let no : (p == pin) ≡ false = grind (arith, nat_tests) in
          ap (max (bit_at d.values pin)) (bit_at-pow_other p pin (λ e. other (sym e)))
          ∙ (omega arith ∙ sym (ap (λ (b : Bool). level_over (cond b (Some true) None) (bit_at d.values pin)) no)))
    ]

pin-down : (p pin : ℕ) (d : Due) → p < 32 → pin < 32 → bit_at (with_pin p false d).values pin ≡ level_over (cond (p == pin) (Some false) None) (bit_at d.values pin)
pin-down p pin d lt inside =
    let was = bit_at-lt d.values pin in
    bit_at_and d.values (2 ^ 32 - 1 - 2 ^ p) pin
    ∙ (ap (min (bit_at d.values pin)) (bit_at_not w32 (2 ^ p) pin (below_word p lt) inside)
    ∙ elim (cases_eq p pin) [
      | inl same ↦ (let yes : (p == pin) ≡ true = grind (arith, nat_tests) in
          ap (λ (k : ℕ). min (bit_at d.values pin) (1 - bit_at (2 ^ k) pin)) same
          ∙ (ap (λ (k : ℕ). min (bit_at d.values pin) (1 - k)) (bit_at-pow_same pin)
          ∙ (omega arith ∙ sym (ap (λ (b : Bool). level_over (cond b (Some false) None) (bit_at d.values pin)) yes))))
      | inr other ↦ (let no : (p == pin) ≡ false = grind (arith, nat_tests) in
          ap (λ (k : ℕ). min (bit_at d.values pin) (1 - k)) (bit_at-pow_other p pin (λ e. other (sym e)))
          ∙ (omega arith ∙ sym (ap (λ (b : Bool). level_over (cond b (Some false) None) (bit_at d.values pin)) no)))
    ])

act-set : (a : LineAct) (pin : ℕ) (d : Due) → bit_at (with_act a d).pins pin ≡ set_over (level_by pin a) (bit_at d.pins pin)
act-set (Pin p level) pin d = pin-set p pin level d
act-set (Tx m w) pin d = refl
act-set (Rx m) pin d = refl
act-set (Feed m e ws) pin d = refl
act-set (Drain m e) pin d = refl
act-set (Enable m) pin d = refl
act-set (Disable m) pin d = refl
act-set (Restart m) pin d = refl

act-level : (a : LineAct) (pin : ℕ) (d : Due) → IsAct a → pin < 32 → bit_at (with_act a d).values pin ≡ level_over (level_by pin a) (bit_at d.values pin)
act-level (Pin p true) pin d h lt = pin-up p pin d
act-level (Pin p false) pin d h lt = pin-down p pin d h lt
act-level (Tx m w) pin d h lt = refl
act-level (Rx m) pin d h lt = refl
act-level (Feed m e ws) pin d h lt = refl
act-level (Drain m e) pin d h lt = refl
act-level (Enable m) pin d h lt = refl
act-level (Disable m) pin d h lt = refl
act-level (Restart m) pin d h lt = refl

set-later : (early late : Option Bool) (old : ℕ) → set_over late (set_over early old) ≡ set_over (later_level early late) old
set-later early None old = refl
set-later None (Some v) old = refl
set-later (Some u) (Some v) old = refl

level-later : (early late : Option Bool) (old : ℕ) → level_over late (level_over early old) ≡ level_over (later_level early late) old
level-later early None old = refl
level-later None (Some v) old = refl
level-later (Some u) (Some v) old = refl

lines-set : (lines : List Line) (pin : ℕ) (d : Due) → bit_at (with_lines lines d).pins pin ≡ set_over (last_level pin lines) (bit_at d.pins pin)
lines-set [] pin d = refl
lines-set (l ∷ ls) pin d =
    lines-set ls pin (with_act l.act d)
    ∙ (ap (set_over (last_level pin ls)) (act-set l.act pin d) ∙ set-later (level_by pin l.act) (last_level pin ls) (bit_at d.pins pin))

lines-level : (lines : List Line) (pin : ℕ) (d : Due) → AllByRecursion IsLine lines → pin < 32 → bit_at (with_lines lines d).values pin ≡ level_over (last_level pin lines) (bit_at d.values pin)
lines-level [] pin d h lt = refl
lines-level (l ∷ ls) pin d h lt =
    lines-level ls pin (with_act l.act d) h.1 lt
    ∙ (ap (level_over (last_level pin ls)) (act-level l.act pin d h.0.act lt) ∙ level-later (level_by pin l.act) (last_level pin ls) (bit_at d.values pin))

set-zero : (o : Option Bool) → set_over o 0 ≡ is_set o
set-zero None = refl
set-zero (Some v) = refl

level-zero : (o : Option Bool) → level_over o 0 ≡ level_bit o
level-zero None = refl
level-zero (Some v) = refl

pub last_set : (lines : List Line) (pin : ℕ) → AllByRecursion IsLine lines → pin < 32 → bit_at (with_lines lines quiet).pins pin ≡ is_set (last_level pin lines)
last_set lines pin h lt = lines-set lines pin quiet ∙ (ap (set_over (last_level pin lines)) (bit_at-zero pin) ∙ set-zero (last_level pin lines))

pub last_counts : (lines : List Line) (pin : ℕ) → AllByRecursion IsLine lines → pin < 32 → bit_at (with_lines lines quiet).values pin ≡ level_bit (last_level pin lines)
last_counts lines pin h lt = lines-level lines pin quiet h lt ∙ (ap (level_over (last_level pin lines)) (bit_at-zero pin) ∙ level-zero (last_level pin lines))
