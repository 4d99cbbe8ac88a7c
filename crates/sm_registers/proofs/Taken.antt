-- That a word that a tick takes is in the OSR after it, and that a word that it gives was all that the ISR held.
use Rattle.std.proofs.Common.{◌≡◌, ℕ, ◌-◌, ◌≤◌, nat_lt, nat_le, Bool, true, false, cond, ◌&&◌, ◌||◌, Option, Some, None, is_some, refl, sym, ap, subst, ◌∙◌, arith}
use Rattle.std.proofs.lemmas.Bool.Decides.{nat_tests}
use Rattle.pio_encode.specs.declared.op.Op.{Op}
use Rattle.pio_encode.specs.Word.{act_of, reading_of}
use Rattle.pin_matrix.specs.declared.machine.MachineSetup.{MachineSetup}
use Rattle.sm_registers.specs.declared.registers.Registers.{Registers}
use Rattle.sm_registers.specs.View.{View}
use Rattle.sm_registers.specs.Queues.{Queues}
use Rattle.sm_registers.specs.Laws.{TakesInto, GivesAll}
use Rattle.sm_registers.specs.Effects.{Effect, is_due, osr_filled, effect_of}
use Rattle.sm_registers.specs.Tick.{osr_filled_from, refilled, current_word, after_effect, refills, tick_delay, tick_by, tick_word, tick_of}
use Rattle.sm_registers.proofs.Effects.{does}

-- what comes after an effect leaves the shift registers
pub record SameShifts (x y : Registers) : Type 0 where
  pub osr : x.osr ≡ y.osr
  pub out_count : x.out_count ≡ y.out_count
  pub isr : x.isr ≡ y.isr
  pub in_count : x.in_count ≡ y.in_count

shifts_if : (b : Bool) (x y z : Registers) → SameShifts x z → SameShifts y z → SameShifts (cond b x y) z
shifts_if true x y z h k = h
shifts_if false x y z h k = k

pub after_keeps : (d : ℕ) (s : MachineSetup) (r : Registers) (e : Effect) → SameShifts (after_effect d s r e) e.registers
unfolding after_effect
after_keeps d s r e =
    shifts_if e.stalled _ _ _ (record { osr = refl; out_count = refl; isr = refl; in_count = refl })
    (record { osr = refl; out_count = refl; isr = refl; in_count = refl })

-- a refill, where it is, and where it isn't
filled_from : (due : Bool) (front : Option ℕ) (r : Registers) (w : ℕ) → (due && is_some front) ≡ true → front ≡ Some w → cond due (osr_filled_from front r) r ≡ osr_filled w r
filled_from true front r w h k = ap (λ f. osr_filled_from f r) k
filled_from false front r w h k = cc

unfilled : (a b : Bool) (x r : Registers) → b ≡ false → cond (a && b) x r ≡ r
unfilled true true x r h = cc
unfilled true false x r h = refl
unfilled false b x r h = refl

full_stays : (s : MachineSetup) (q : Queues) (r : Registers) → r.out_count ≡ 0 → refilled s q r ≡ r
full_stays s q r h =
    let some : 1 ≤ s.pull_threshold = s.pulls_some in
    let below : nat_le s.pull_threshold r.out_count ≡ false = grind (arith, nat_tests) in
    unfilled s.autopull (nat_le s.pull_threshold r.out_count) _ r below

refill_fills : (s : MachineSetup) (q : Queues) (r : Registers) (w : ℕ) → refills s q r ≡ true → q.front ≡ Some w → refilled s q r ≡ osr_filled w r
refill_fills s q r w h k = filled_from (is_due s r) q.front r w h k

filled_keeps_isr : (front : Option ℕ) (r : Registers) → (osr_filled_from front r).isr ≡ r.isr
filled_keeps_isr None r = refl
filled_keeps_isr (Some w) r = refl

filled_keeps_in_count : (front : Option ℕ) (r : Registers) → (osr_filled_from front r).in_count ≡ r.in_count
filled_keeps_in_count None r = refl
filled_keeps_in_count (Some w) r = refl

pick_isr : (b : Bool) (x y : Registers) → x.isr ≡ y.isr → (cond b x y).isr ≡ y.isr
pick_isr true x y h = h
pick_isr false x y h = refl

pick_in_count : (b : Bool) (x y : Registers) → x.in_count ≡ y.in_count → (cond b x y).in_count ≡ y.in_count
pick_in_count true x y h = h
pick_in_count false x y h = refl

-- the OSR after the refill, where the effect took a word or the refill did
taken : (s : MachineSetup) (q : Queues) (x : Registers) (b : Bool) (w : ℕ) → q.front ≡ Some w → (b ≡ true → x.osr ≡ w) → (b ≡ true → x.out_count ≡ 0) → (b || refills s q x) ≡ true → TakesInto w (refilled s q x)
taken s q x true w f h k t =
    subst (λ y. TakesInto w y) (sym (full_stays s q x (k refl))) (record { osr = h refl; out_count = k refl })
taken s q x false w f h k t =
    subst (λ y. TakesInto w y) (sym (refill_fills s q x w t f)) (record { osr = refl; out_count = refl })

pub word_taken :
    (s : MachineSetup) (v : View) (q : Queues) (r : Registers) (w : ℕ) → q.front ≡ Some w → (tick_of s v q r).1.take ≡ true → TakesInto w (tick_of s v q r).0
unfolding tick_of tick_delay tick_word tick_by reading_of
word_taken s v q r w f =
    let word : ℕ = current_word v r in
    let e : Effect = effect_of (act_of word) s v q r in
    let does = does (act_of word) s v q r in
    let op : Op = reading_of word s.side_rule in
    let kept : SameShifts (after_effect op.delay s r e) e.registers = after_keeps op.delay s r e in
    elim (nat_lt 0 r.delay) as (λ b. (cond b (tick_delay s q r) (tick_word (reading_of word s.side_rule) s v q r)).1.take ≡ true → TakesInto w (cond b (tick_delay s q r) (tick_word (reading_of word s.side_rule) s v q r)).0) [
      | true ↦ taken s q (record r { delay = r.delay - 1 }) false w f (λ t. cc) (λ t. cc)
      | false ↦ taken s q (after_effect op.delay s r e) e.take w f (λ t. kept.osr ∙ does.osr t w f) (λ t. kept.out_count ∙ does.full t)
    ]

given : (s : MachineSetup) (q : Queues) (x : Registers) → x.isr ≡ 0 → x.in_count ≡ 0 → GivesAll (refilled s q x)
given s q x h k = record {
  isr = pick_isr (s.autopull && nat_le s.pull_threshold x.out_count) _ x (filled_keeps_isr q.front x) ∙ h;
  in_count = pick_in_count (s.autopull && nat_le s.pull_threshold x.out_count) _ x (filled_keeps_in_count q.front x) ∙ k;
}

pub word_given :
    (s : MachineSetup) (v : View) (q : Queues) (r : Registers) → is_some (tick_of s v q r).1.word ≡ true → GivesAll (tick_of s v q r).0
unfolding tick_of tick_delay tick_word tick_by reading_of
word_given s v q r =
    let word : ℕ = current_word v r in
    let e : Effect = effect_of (act_of word) s v q r in
    let does = does (act_of word) s v q r in
    let op : Op = reading_of word s.side_rule in
    let kept : SameShifts (after_effect op.delay s r e) e.registers = after_keeps op.delay s r e in
    elim (nat_lt 0 r.delay) as (λ b. is_some (cond b (tick_delay s q r) (tick_word (reading_of word s.side_rule) s v q r)).1.word ≡ true → GivesAll (cond b (tick_delay s q r) (tick_word (reading_of word s.side_rule) s v q r)).0) [
      | true ↦ (λ t. cc)
      | false ↦ (λ t. given s q (after_effect op.delay s r e) (kept.isr ∙ does.isr t) (kept.in_count ∙ does.in_count t))
    ]
