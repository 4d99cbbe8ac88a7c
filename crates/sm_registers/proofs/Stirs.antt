-- Ticks that don't stir, one and many, and which tick is the next that does.
use Rattle.std.proofs.Common.{◌≡◌, ℕ, zero, suc, ◌-◌, ◌<◌, ◌==◌, Bool, true, false, cond, not, ◌&&◌, ◌||◌, refl, sym, ap, ◌∙◌, inl, inr, arith}
use Rattle.std.proofs.Math.Nat.{sub-zero}
use Rattle.std.proofs.lemmas.Bool.{cases_lt, and_parts}
use Rattle.std.proofs.lemmas.Bool.Decides.{nat_tests}
use Rattle.pin_matrix.specs.declared.machine.MachineSetup.{MachineSetup}
use Rattle.sm_registers.specs.declared.idle.Idle.TheVariants.{Ticks, Never}
use Rattle.sm_registers.specs.declared.registers.Registers.{Registers}
use Rattle.sm_registers.specs.View.{View}
use Rattle.sm_registers.specs.Queues.{Queues}
use Rattle.sm_registers.specs.declared.intent.Intent.{Intent}
use Rattle.sm_registers.specs.declared.intent.Kind.TheVariants.{First, Late, Delay}
use Rattle.sm_registers.specs.Intents.{no_intent}
use Rattle.sm_registers.specs.Ranges.{IsPlaced}
use Rattle.sm_registers.specs.Effects.{Effect, stall}
use Rattle.sm_registers.specs.Tick.{after_effect, refills, tick_delay, tick_by, tick_of}
use Rattle.sm_registers.specs.Idling.{begins, begins_next, finishes, stirs, only_counts, only_waits, after_ticks, stirs_at, undelayed, stays, idle_of, IsIdle, IsSoon}
use Rattle.sm_registers.specs.Rules.{current_act}
use Rattle.sm_registers.proofs.Ticks.{op_now, effect_now, in_delay, at_rest, stalled_is}
use Rattle.sm_registers.proofs.Calm.{delay_counts, late_stall_waits}
use Rattle.sm_registers.proofs.Effects.{does}

-- the test of a tick of an instruction, by whether it had begun, stalls and takes a word
abbrev stirs_by : (begun stalled take : Bool) → Bool
stirs_by begun stalled take = begins (cond begun Late First) || (finishes (cond begun Late First) stalled || take)

stirs_word :
    (s : MachineSetup) (v : View) (q : Queues) (r : Registers) → r.delay ≡ 0
    → stirs (tick_of s v q r).1
    ≡ (let e = effect_now s v q r in stirs_by r.begun e.stalled (e.take || refills s q (after_effect (op_now s v r).delay s r e)))
unfolding tick_by
stirs_word s v q r none = ap (λ x. stirs x.1) (at_rest s v q r none)

-- one that doesn't stir is late, stalls and takes nothing
late_from : (begun stalled take : Bool) → stirs_by begun stalled take ≡ false → (begun ≡ true) × ((stalled ≡ true) × (take ≡ false))
late_from true true false h = (refl, (refl, refl))
late_from true true true h = cc
late_from true false take h = cc
late_from false stalled take h = cc

-- a late stall takes a word only by a refill
takes_late :
    (s : MachineSetup) (q : Queues) (r : Registers) (delay : ℕ) (e : Effect) → e ≡ record (stall r) { sticky = e.sticky }
    → (e.take || refills s q (after_effect delay s r e)) ≡ refills s q r
unfolding after_effect
takes_late s q r delay e still = ap (λ x. x.take || refills s q (after_effect delay s r x)) still

-- the tick of a delay, and that of a stall, as one that only counts and waits
calm_counts :
    (r : Registers) (x : Registers × Intent) → x ≡ (only_counts r, record no_intent { kind = Delay }) → x ≡ (only_counts r, only_waits x.1)
calm_counts r x h = h ∙ ap (λ y. (only_counts r, only_waits y.1)) (sym h)

calm_stays :
    (r : Registers) (x : Registers × Intent) → r.delay ≡ 0
    → x ≡ (r, record no_intent { sticky = x.1.sticky; kind = Late; stalled = true }) → x ≡ (only_counts r, only_waits x.1)
calm_stays r x none h =
    let counts : r.delay ≡ r.delay - 1 = omega arith in
    h ∙ ap (λ d. (record r { delay = d }, record no_intent { sticky = x.1.sticky; kind = Late; stalled = true })) counts
    ∙ ap (λ y. (only_counts r, only_waits y.1)) (sym h)

calm_delay :
    (s : MachineSetup) (v : View) (q : Queues) (r : Registers) → 0 < r.delay → stirs (tick_of s v q r).1 ≡ false
    → tick_of s v q r ≡ (only_counts r, only_waits (tick_of s v q r).1)
unfolding tick_delay
calm_delay s v q r left h =
    let k : refills s q r ≡ false = sym (ap (λ x. stirs x.1) (in_delay s v q r left)) ∙ h in
    calm_counts r (tick_of s v q r) (delay_counts s v q r left k)

-- what is known of a tick of an instruction that doesn't stir
pub record IsCalm (s : MachineSetup) (v : View) (q : Queues) (r : Registers) : Type 0 where
  pub begun : r.begun ≡ true
  pub stalled : (effect_now s v q r).stalled ≡ true
  pub unfilled : refills s q r ≡ false

pub calm_from :
    (s : MachineSetup) (v : View) (q : Queues) (r : Registers) → r.delay ≡ 0 → stirs (tick_of s v q r).1 ≡ false → IsCalm s v q r
calm_from s v q r none h =
    let e : Effect = effect_now s v q r in
    let parts = late_from r.begun e.stalled _ (sym (stirs_word s v q r none) ∙ h) in
    let still = (does (current_act v r) s v q r).still parts.0 parts.1.0 in
    record {
      begun = parts.0;
      stalled = parts.1.0;
      unfilled = sym (takes_late s q r (op_now s v r).delay e still) ∙ parts.1.1;
    }

calm_word :
    (s : MachineSetup) (v : View) (q : Queues) (r : Registers) → r.delay ≡ 0 → stirs (tick_of s v q r).1 ≡ false
    → tick_of s v q r ≡ (only_counts r, only_waits (tick_of s v q r).1)
calm_word s v q r none h =
    let calm = calm_from s v q r none h in
    calm_stays r (tick_of s v q r) none (late_stall_waits s v q r calm.begun none calm.unfilled (stalled_is s v q r none ∙ calm.stalled))

-- a tick that doesn't stir only counts the delay
pub calm_tick :
    (s : MachineSetup) (v : View) (q : Queues) (r : Registers) → stirs (tick_of s v q r).1 ≡ false
    → tick_of s v q r ≡ (only_counts r, only_waits (tick_of s v q r).1)
calm_tick s v q r h = elim (cases_lt 0 r.delay) [
  | inl left ↦ calm_delay s v q r left h
  | inr none ↦ calm_word s v q r (omega arith) h
]

-- one tick more
counted_more :
    (s : MachineSetup) (v : View) (q : Queues) (r : Registers) (n : ℕ)
    → after_ticks s v q n r ≡ record r { delay = r.delay - n } → stirs_at s v q r n ≡ false
    → after_ticks s v q (suc n) r ≡ record r { delay = r.delay - suc n }
unfolding after_ticks
counted_more s v q r n before calm =
    let counts : r.delay - n - 1 ≡ r.delay - suc n = omega arith in
    ap (λ x. x.0) (calm_tick s v q (after_ticks s v q n r) calm) ∙ ap (λ x. only_counts x) before
    ∙ ap (λ d. record r { delay = d }) counts

-- ticks that don't stir only count the delay
pub passes :
    (s : MachineSetup) (v : View) (q : Queues) (r : Registers) (n : ℕ) → ((k : ℕ) → k < n → stirs_at s v q r k ≡ false)
    → after_ticks s v q n r ≡ record r { delay = r.delay - n }
unfolding after_ticks
passes s v q r zero h = ap (λ d. record r { delay = d }) (sym (sub-zero r.delay))
passes s v q r (suc n) h = counted_more s v q r n (passes s v q r n (λ k l. h k (omega arith))) (h n (omega arith))

-- the same, where they are known not to stir by the delay that is left
counted :
    (s : MachineSetup) (v : View) (q : Queues) (r : Registers) (n : ℕ)
    → ((k : ℕ) → k < n → stirs (tick_of s v q (record r { delay = r.delay - k })).1 ≡ false)
    → after_ticks s v q n r ≡ record r { delay = r.delay - n }
unfolding after_ticks
counted s v q r zero h = ap (λ d. record r { delay = d }) (sym (sub-zero r.delay))
counted s v q r (suc n) h =
    let before = counted s v q r n (λ k l. h k (omega arith)) in
    counted_more s v q r n before (ap (λ x. stirs (tick_of s v q x).1) before ∙ h n (omega arith))

-- a tick of a delay without a refill doesn't stir
delay_calm :
    (s : MachineSetup) (v : View) (q : Queues) (r : Registers) → 0 < r.delay → refills s q r ≡ false
    → stirs (tick_of s v q r).1 ≡ false
delay_calm s v q r left h = ap (λ x. stirs x.1) (delay_counts s v q r left h)

-- nor does a stall that lasts, whatever delay is left
stay_calm :
    (s : MachineSetup) (v : View) (q : Queues) (r : Registers) (delay : ℕ) → refills s q r ≡ false → stays s v q r ≡ true
    → stirs (tick_of s v q (record r { delay = delay })).1 ≡ false
stay_calm s v q r zero h stay =
    let parts = and_parts r.begun (undelayed s v q r).stalled stay in
    let z : Registers = record r { delay = 0 } in
    let stalled : (tick_of s v q z).1.stalled ≡ true = stalled_is s v q z refl ∙ parts.1 in
    ap (λ x. stirs x.1) (late_stall_waits s v q z parts.0 refl h stalled)
stay_calm s v q r (suc delay) h stay = delay_calm s v q (record r { delay = suc delay }) (omega arith) h

woken : (begun stalled take : Bool) → (begun && stalled) ≡ false → stirs_by begun stalled take ≡ true
woken true true take h = cc
woken true false take h = refl
woken false stalled take h = refl

-- any other instruction's tick does
wakes :
    (s : MachineSetup) (v : View) (q : Queues) (r : Registers) → stays s v q r ≡ false
    → stirs (tick_of s v q (record r { delay = 0 })).1 ≡ true
wakes s v q r h =
    let z : Registers = record r { delay = 0 } in
    stirs_word s v q z refl ∙ woken r.begun _ _ h

not_begun : (begun stalled : Bool) → not begun ≡ true → (begun && stalled) ≡ false
not_begun true stalled h = cc
not_begun false stalled h = refl

-- so does the first of an instruction
pub first_stirs :
    (s : MachineSetup) (v : View) (q : Queues) (r : Registers) → begins_next r ≡ true → stirs (tick_of s v q r).1 ≡ true
first_stirs s v q r h =
    let parts = and_parts (r.delay == 0) (not r.begun) h in
    let zero : (r.delay == 0) ≡ true = parts.0 in
    let none : r.delay ≡ 0 = grind (arith, nat_tests) in
    stirs_word s v q r none ∙ woken r.begun _ _ (not_begun r.begun _ parts.1)

filled_by : (begun stalled take : Bool) → (begun ≡ true → stalled ≡ true → take ≡ true) → stirs_by begun stalled take ≡ true
filled_by true true true h = refl
filled_by true true false h = let no = h refl refl in cc
filled_by true false take h = refl
filled_by false stalled take h = refl

-- so does any tick in which a refill is due
fills :
    (s : MachineSetup) (v : View) (q : Queues) (r : Registers) → refills s q r ≡ true → stirs (tick_of s v q r).1 ≡ true
unfolding tick_delay
fills s v q r h = elim (cases_lt 0 r.delay) [
  | inl left ↦ ap (λ x. stirs x.1) (in_delay s v q r left) ∙ h
  | inr none ↦ stirs_word s v q r (omega arith)
      ∙ filled_by r.begun _ _ (λ begun stalled.
      takes_late s q r (op_now s v r).delay (effect_now s v q r) ((does (current_act v r) s v q r).still begun stalled) ∙ h)
]

idle_by :
    (s : MachineSetup) (v : View) (q : Queues) (r : Registers) (now stay : Bool) → refills s q r ≡ now → stays s v q r ≡ stay
    → IsIdle s v q r (cond now (Ticks 0) (cond stay Never (Ticks r.delay)))
unfolding after_ticks
idle_by s v q r true stay h k = (fills s v q r h, λ n l. absurd (omega arith))
idle_by s v q r false true h k = λ n.
    ap (λ x. stirs (tick_of s v q x).1) (counted s v q r n (λ m l. stay_calm s v q r (r.delay - m) h k))
    ∙ stay_calm s v q r (r.delay - n) h k
idle_by s v q r false false h k =
    let calm : (m : ℕ) → m < r.delay → stirs (tick_of s v q (record r { delay = r.delay - m })).1 ≡ false =
    λ m l. delay_calm s v q (record r { delay = r.delay - m }) (omega arith) h in
    let over : r.delay - r.delay ≡ 0 = omega arith in (
      ap (λ x. stirs (tick_of s v q x).1) (counted s v q r r.delay calm ∙ ap (λ d. record r { delay = d }) over) ∙ wakes s v q r k,
      λ n l. ap (λ x. stirs (tick_of s v q x).1) (counted s v q r n (λ m below. calm m (omega arith))) ∙ calm n l,
    )

-- what the ticks until one stirs mean
pub is_idle : (s : MachineSetup) (v : View) (q : Queues) (r : Registers) → IsIdle s v q r (idle_of s v q r)
is_idle s v q r = idle_by s v q r (refills s q r) (stays s v q r) refl refl

soon_by : (delay : ℕ) (now stay : Bool) → delay < 32 → IsSoon (cond now (Ticks 0) (cond stay Never (Ticks delay)))
soon_by delay true stay h = omega arith
soon_by delay false true h = tt
soon_by delay false false h = h

pub is_soon : (s : MachineSetup) (v : View) (q : Queues) (r : Registers) → IsPlaced r → IsSoon (idle_of s v q r)
is_soon s v q r h = soon_by r.delay (refills s q r) (stays s v q r) h.delay
