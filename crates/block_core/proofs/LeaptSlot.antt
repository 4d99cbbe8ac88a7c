-- When the machine of a place next stirs, and its ticks until then.
use Rattle.std.proofs.Common.{◌≡◌, ℕ, zero, suc, ◌+◌, ◌-◌, ◌<◌, ◌≤◌, Bool, true, false, ◌&&◌, Some, cond, refl, ap, sym, ◌∙◌, subst, inl, inr, arith}
use Rattle.std.proofs.lemmas.Bool.{cases_lt}
use Rattle.clock_divider.specs.Ticks.{is_tick, tick_count}
use Rattle.pin_matrix.specs.declared.machine.MachineSetup.{MachineSetup}
use Rattle.sm_registers.specs.declared.idle.Idle.TheVariants.{Ticks}
use Rattle.sm_registers.specs.declared.registers.Registers.{Registers}
use Rattle.sm_registers.specs.View.{View}
use Rattle.sm_registers.specs.declared.intent.Intent.{Intent}
use Rattle.sm_registers.specs.Intents.{no_intent}
use Rattle.sm_registers.specs.Idling.{stirs, stirs_at, after_ticks, IsIdle}
use Rattle.sm_registers.specs.Queues.{Queues}
use Rattle.sm_registers.specs.State.{queues_of}
use Rattle.sm_registers.specs.Tick.{tick_of}
use Rattle.dreq_pacing.specs.Ports.{IsFirst}
use Rattle.block_core.specs.Leaps.{ticks_in, leapt_slot, stirs_after}
use Rattle.block_core.specs.Slots.{Slot, acted}
use Rattle.block_core.proofs.LeaptRun.{lined_quiet}

-- what the law of many calm ticks says
abbrev pub CountsOften : Type 0
CountsOften =
    (s : MachineSetup) (v : View) (q : Queues) (r : Registers) (n : ℕ) → ((k : ℕ) → k < n → stirs_at s v q r k ≡ false)
    → after_ticks s v q n r ≡ record r { delay = r.delay - n }

-- its ticks, if it is enabled
abbrev pub ticks_of : Slot → ℕ → ℕ
ticks_of s n = tick_count s.timing.restarted s.timing.period s.timing.clock n

abbrev pub ticks_after : Slot → ℕ → Bool
ticks_after s n = is_tick s.timing.restarted s.timing.period (s.timing.clock + n)

-- that a tick stirs, by the number of ticks before it
abbrev pub slot_stirs_at : View → Slot → ℕ → Bool
slot_stirs_at v s k = stirs_at s.machine.setup v (queues_of s.machine.ports.fifos) s.machine.registers k

-- what the tick after some others is that only counted
abbrev counted_tick : View → Slot → ℕ → Registers × Intent
counted_tick v s k = tick_of s.machine.setup v (queues_of s.machine.ports.fifos) (record s.machine.registers { delay = s.machine.registers.delay - k })

counted_stirs : CountsOften → (v : View) (s : Slot) (k : ℕ) → ((j : ℕ) → j < k → slot_stirs_at v s j ≡ false) → stirs (counted_tick v s k).1 ≡ slot_stirs_at v s k
counted_stirs often v s k h =
    let q = queues_of s.machine.ports.fifos in
    ap (λ r. stirs (tick_of s.machine.setup v q r).1) (sym (often s.machine.setup v q s.machine.registers k h))

-- whether it stirs in a clock, by whether it has a tick there
acts_in_clock : (v : View) (s : Slot) (n : ℕ) → stirs_after v (Some s) n ≡ stirs (cond (s.enabled && ticks_after s n) (counted_tick v s (ticks_in n s)) (record s.machine.registers { delay = s.machine.registers.delay - ticks_in n s }, no_intent)).1
unfolding acted
acts_in_clock v s n = ap (λ t. stirs (acted v t).1) (lined_quiet (leapt_slot n s))

stirs_by : (b : Bool) (tick : Registers × Intent) (r : Registers) → stirs (cond b tick (r, no_intent)).1 ≡ (b && stirs tick.1)
stirs_by true tick r = refl
stirs_by false tick r = refl

-- a disabled machine never stirs
pub disabled_leaps : (v : View) (s : Slot) → s.enabled ≡ false → (n : ℕ) → stirs_after v (Some s) n ≡ false
disabled_leaps v s off n =
    acts_in_clock v s n ∙ stirs_by (s.enabled && ticks_after s n) (counted_tick v s (ticks_in n s)) _
    ∙ ap (λ (b : Bool). (b && ticks_after s n) && stirs (counted_tick v s (ticks_in n s)).1) off

enabled_stirs : (v : View) (s : Slot) → s.enabled ≡ true → (n : ℕ) → stirs_after v (Some s) n ≡ (ticks_after s n && stirs (counted_tick v s (ticks_of s n)).1)
enabled_stirs v s on n =
    acts_in_clock v s n ∙ stirs_by (s.enabled && ticks_after s n) (counted_tick v s (ticks_in n s)) _
    ∙ ap (λ (b : Bool). (b && ticks_after s n) && stirs (counted_tick v s (cond b (ticks_of s n) 0)).1) on

-- counts of ticks grow
count_one : (restarted period clock n : ℕ) → tick_count restarted period clock (suc n) ≡ tick_count restarted period clock n + cond (is_tick restarted period (clock + n)) 1 0
unfolding tick_count
count_one restarted period clock n = refl

one_more : (b : Bool) (a c : ℕ) → b ≡ true → c ≡ a + cond b 1 0 → a < c
one_more true a c h e = omega (arith, e)
one_more false a c h e = cc

no_less : (b : Bool) (a c : ℕ) → c ≡ a + cond b 1 0 → a ≤ c
no_less true a c e = omega (arith, e)
no_less false a c e = omega (arith, e)

tick_below : (s : Slot) (n m : ℕ) → n < m → ticks_after s n ≡ true → ticks_of s n < ticks_of s m
tick_below s n zero lt h = absurd (omega (arith, lt))
tick_below s n (suc m) lt h =
    let t = s.timing in
    let grown = count_one t.restarted t.period t.clock m in
    elim (cases_lt n m) [
      | inl below ↦ (let before = tick_below s n m below h in let more = no_less (ticks_after s m) (ticks_of s m) _ grown in omega (arith, before, more))
      | inr here ↦ (let same : n ≡ m = omega (arith, lt, here) in
          subst (λ k. ticks_of s k < ticks_of s (suc m)) (sym same) (one_more (ticks_after s m) (ticks_of s m) _ (subst (λ k. ticks_after s k ≡ true) same h) grown))
    ]

and_none : (a b : Bool) → (a ≡ true → b ≡ false) → (a && b) ≡ false
and_none true b h = h refl
and_none false b h = refl

-- a machine that idles for ever
pub never_stirs : CountsOften → (v : View) (s : Slot) → ((k : ℕ) → slot_stirs_at v s k ≡ false) → (n : ℕ) → stirs_after v (Some s) n ≡ false
never_stirs often v s h n = elim (s.enabled) as (λ b. s.enabled ≡ b → stirs_after v (Some s) n ≡ false) [
  | true ↦ λ on. enabled_stirs v s on n ∙ and_none (ticks_after s n) _ (λ t. counted_stirs often v s (ticks_of s n) (λ j lt. h j) ∙ h (ticks_of s n))
  | false ↦ λ off. disabled_leaps v s off n
] refl

-- one that idles until a tick, in the clock of that tick
pub first_stir : CountsOften → (v : View) (s : Slot) → s.enabled ≡ true → (m asked c : ℕ) → asked ≡ m → IsIdle s.machine.setup v (queues_of s.machine.ports.fifos) s.machine.registers (Ticks m) → ticks_after s c ≡ true → ticks_of s c ≡ asked → IsFirst (stirs_after v (Some s)) 0 (Some c)
first_stir often v s on m asked c is idle tick counted = let count : ticks_of s c ≡ m = counted ∙ is in (
  omega arith,
  enabled_stirs v s on c ∙ ap (λ b. b && stirs (counted_tick v s (ticks_of s c)).1) tick
      ∙ ap (λ k. stirs (counted_tick v s k).1) count ∙ counted_stirs often v s m idle.1 ∙ idle.0,
  λ n le lt. enabled_stirs v s on n ∙ and_none (ticks_after s n) _ (λ t.
      let below = tick_below s n c lt t in
      counted_stirs often v s (ticks_of s n) (λ j k. idle.1 j (omega (arith, k, below, count)))
      ∙ idle.1 (ticks_of s n) (omega (arith, below, count))),
)

no_ticks : (restarted period clock j : ℕ) → j < tick_count restarted period clock zero → ⊥
unfolding tick_count
no_ticks restarted period clock j lt = omega (arith, lt)

-- the ticks of clocks in which it doesn't stir don't stir
ticks_still : CountsOften → (v : View) (s : Slot) → s.enabled ≡ true → (n : ℕ) → ((k : ℕ) → k < n → stirs_after v (Some s) k ≡ false) → (j : ℕ) → j < ticks_of s n → slot_stirs_at v s j ≡ false
ticks_still often v s on zero h j lt = absurd (no_ticks s.timing.restarted s.timing.period s.timing.clock j lt)
ticks_still often v s on (suc n) h j lt =
    let t = s.timing in
    let before = ticks_still often v s on n (λ k below. h k (omega (arith, below))) in
    elim (cases_lt j (ticks_of s n)) [
      | inl below ↦ before j below
      | inr here ↦ last (ticks_after s n) _ (ticks_of s n) _ j (count_one t.restarted t.period t.clock n) lt here
          (sym (enabled_stirs v s on n) ∙ h n (omega arith)) (counted_stirs often v s (ticks_of s n) before)
    ]
  where
    last : (b : Bool) (x : Bool) (a c j : ℕ) → c ≡ a + cond b 1 0 → j < c → a ≤ j → (b && x) ≡ false → x ≡ slot_stirs_at v s a → slot_stirs_at v s j ≡ false
    last true x a c j e lt le calm same =
        let here : j ≡ a = omega (arith, e, lt, le) in ap (slot_stirs_at v s) here ∙ sym same ∙ calm
    last false x a c j e lt le calm same = absurd (omega (arith, e, lt, le))

-- the same of a machine by another name, and of so many ticks
pub calm_ticks : CountsOften → (v : View) (s t : Slot) → s ≡ t → s.enabled ≡ true → (n ticks : ℕ) → ticks ≡ ticks_of s n → ((k : ℕ) → k < n → stirs_after v (Some t) k ≡ false) → (j : ℕ) → j < ticks → slot_stirs_at v s j ≡ false
calm_ticks often v s t same on n ticks count h j lt =
    ticks_still often v s on n (λ k below. ap (λ (s : Slot). stirs_after v (Some s) k) same ∙ h k below) j (subst (λ c. j < c) count lt)
