-- A tick, opened: which of its parts runs, and where each register and each part of its intent comes from.
use Rattle.std.proofs.Common.{◌≡◌, ℕ, ◌-◌, ◌<◌, nat_lt, nat_le, Bool, true, false, cond, ◌&&◌, Option, Some, None, is_some, refl, sym, ap, ◌∙◌, arith}
use Rattle.std.proofs.lemmas.Bool.Decides.{nat_tests}
use Rattle.pio_encode.specs.declared.op.Op.{Op}
use Rattle.pio_encode.specs.Word.{reading_of}
use Rattle.pin_matrix.specs.declared.machine.MachineSetup.{MachineSetup}
use Rattle.sm_registers.specs.declared.registers.Registers.{Registers}
use Rattle.sm_registers.specs.View.{View}
use Rattle.sm_registers.specs.Queues.{Queues}
use Rattle.sm_registers.specs.Rules.{current_act}
use Rattle.sm_registers.specs.Effects.{Effect, effect_of}
use Rattle.sm_registers.specs.Tick.{current_word, pc_after, delay_after, after_effect, refilled, osr_filled_from, tick_delay, tick_by, tick_word, tick_of}

-- the word of a tick, read
abbrev pub op_now : MachineSetup → View → Registers → Op
op_now s v r = reading_of (current_word v r) s.side_rule

-- the effect of a tick's instruction
abbrev pub effect_now : MachineSetup → View → Queues → Registers → Effect
effect_now s v q r = effect_of (current_act v r) s v q r

-- a tick of a delay
pub in_delay : (s : MachineSetup) (v : View) (q : Queues) (r : Registers) → 0 < r.delay → tick_of s v q r ≡ tick_delay s q r
unfolding tick_of
in_delay s v q r h = let left : nat_lt 0 r.delay ≡ true = grind (arith, nat_tests) in rw left refl

-- a tick of an instruction
pub at_rest :
    (s : MachineSetup) (v : View) (q : Queues) (r : Registers) → r.delay ≡ 0
    → tick_of s v q r ≡ tick_by (op_now s v r) s q r (effect_now s v q r)
unfolding tick_of tick_word reading_of
at_rest s v q r h = let none : nat_lt 0 r.delay ≡ false = grind (arith, nat_tests) in rw none refl

-- registers that agree in all but the OSR, its count, X and Y, and whether the instruction has begun
pub record SameRest (x y : Registers) : Type 0 where
  pub pc : x.pc ≡ y.pc
  pub pending : x.pending ≡ y.pending
  pub delay : x.delay ≡ y.delay
  pub isr : x.isr ≡ y.isr
  pub in_count : x.in_count ≡ y.in_count

rest_if : (b : Bool) (x y z : Registers) → SameRest x z → SameRest y z → SameRest (cond b x y) z
rest_if true x y z h k = h
rest_if false x y z h k = k

rest_same : (r : Registers) → SameRest r r
rest_same r = record { pc = refl; pending = refl; delay = refl; isr = refl; in_count = refl }

rest_filled : (front : Option ℕ) (r : Registers) → SameRest (osr_filled_from front r) r
rest_filled None r = rest_same r
rest_filled (Some w) r = record { pc = refl; pending = refl; delay = refl; isr = refl; in_count = refl }

rest_refilled : (s : MachineSetup) (q : Queues) (r : Registers) → SameRest (refilled s q r) r
rest_refilled s q r =
    rest_if (s.autopull && nat_le s.pull_threshold r.out_count) _ _ r (rest_filled q.front r) (rest_same r)

pub rest_delay : (s : MachineSetup) (q : Queues) (r : Registers) → SameRest (tick_delay s q r).0 (record r { delay = r.delay - 1 })
unfolding tick_delay
rest_delay s q r = rest_refilled s q (record r { delay = r.delay - 1 })

pub rest_by : (op : Op) (s : MachineSetup) (q : Queues) (r : Registers) (e : Effect) → SameRest (tick_by op s q r e).0 (after_effect op.delay s r e)
unfolding tick_by
rest_by op s q r e = rest_refilled s q (after_effect op.delay s r e)

-- an instruction that finishes, and one that stalls
done_by :
    (d : ℕ) (s : MachineSetup) (r : Registers) (e : Effect) → e.stalled ≡ false
    → after_effect d s r e ≡ record e.registers {
      pc = pc_after e.jump (is_some r.pending) s r;
      pending = e.pending;
      delay = delay_after e.pending d;
      begun = false;
    }
unfolding after_effect
done_by d s r e h = rw h refl

stuck_by :
    (d : ℕ) (s : MachineSetup) (r : Registers) (e : Effect) → e.stalled ≡ true
    → after_effect d s r e ≡ record e.registers { begun = true }
unfolding after_effect
stuck_by d s r e h = rw h refl

-- whether it stalls, which flags it raises and which word it gives are its effect's
pub stalled_is :
    (s : MachineSetup) (v : View) (q : Queues) (r : Registers) → r.delay ≡ 0
    → (tick_of s v q r).1.stalled ≡ (effect_now s v q r).stalled
unfolding tick_by
stalled_is s v q r h = ap (λ x. x.1.stalled) (at_rest s v q r h)

pub sets_is :
    (s : MachineSetup) (v : View) (q : Queues) (r : Registers) → r.delay ≡ 0
    → (tick_of s v q r).1.sets ≡ (effect_now s v q r).sets
unfolding tick_by
sets_is s v q r h = ap (λ x. x.1.sets) (at_rest s v q r h)

pub word_is :
    (s : MachineSetup) (v : View) (q : Queues) (r : Registers) → r.delay ≡ 0
    → (tick_of s v q r).1.word ≡ (effect_now s v q r).word
unfolding tick_by
word_is s v q r h = ap (λ x. x.1.word) (at_rest s v q r h)

pub sticky_is :
    (s : MachineSetup) (v : View) (q : Queues) (r : Registers) → r.delay ≡ 0
    → (tick_of s v q r).1.sticky ≡ (effect_now s v q r).sticky
unfolding tick_by
sticky_is s v q r h = ap (λ x. x.1.sticky) (at_rest s v q r h)

-- the registers after a tick in which the instruction finishes, by its effect
pub record IsDone (d : ℕ) (s : MachineSetup) (r : Registers) (e : Effect) (x : Registers) : Type 0 where
  pub pc : x.pc ≡ pc_after e.jump (is_some r.pending) s r
  pub pending : x.pending ≡ e.pending
  pub delay : x.delay ≡ delay_after e.pending d

pub done :
    (s : MachineSetup) (v : View) (q : Queues) (r : Registers) → r.delay ≡ 0 → (tick_of s v q r).1.stalled ≡ false
    → IsDone (op_now s v r).delay s r (effect_now s v q r) (tick_of s v q r).0
done s v q r left goes =
    let op : Op = op_now s v r in
    let e : Effect = effect_now s v q r in
    let here : (tick_of s v q r).0 ≡ (tick_by op s q r e).0 = ap (λ x. x.0) (at_rest s v q r left) in
    let rest : SameRest (tick_by op s q r e).0 (after_effect op.delay s r e) = rest_by op s q r e in
    let after = done_by op.delay s r e (sym (stalled_is s v q r left) ∙ goes) in
    record {
      pc = ap (λ x. x.pc) here ∙ rest.pc ∙ ap (λ x. x.pc) after;
      pending = ap (λ x. x.pending) here ∙ rest.pending ∙ ap (λ x. x.pending) after;
      delay = ap (λ x. x.delay) here ∙ rest.delay ∙ ap (λ x. x.delay) after;
    }

-- the same where it stalls
pub record IsStuck (e : Effect) (x : Registers) : Type 0 where
  pub pc : x.pc ≡ e.registers.pc
  pub delay : x.delay ≡ e.registers.delay

pub stuck :
    (s : MachineSetup) (v : View) (q : Queues) (r : Registers) → r.delay ≡ 0 → (tick_of s v q r).1.stalled ≡ true
    → IsStuck (effect_now s v q r) (tick_of s v q r).0
stuck s v q r left stalls =
    let op : Op = op_now s v r in
    let e : Effect = effect_now s v q r in
    let here : (tick_of s v q r).0 ≡ (tick_by op s q r e).0 = ap (λ x. x.0) (at_rest s v q r left) in
    let rest : SameRest (tick_by op s q r e).0 (after_effect op.delay s r e) = rest_by op s q r e in
    let after = stuck_by op.delay s r e (sym (stalled_is s v q r left) ∙ stalls) in
    record {
      pc = ap (λ x. x.pc) here ∙ rest.pc ∙ ap (λ x. x.pc) after;
      delay = ap (λ x. x.delay) here ∙ rest.delay ∙ ap (λ x. x.delay) after;
    }
