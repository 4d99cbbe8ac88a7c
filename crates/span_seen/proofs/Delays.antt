-- The end of a machine's delay, as it is told ahead, in a clock in which no line acts on it.
use Rattle.std.proofs.Common.{◌≡◌, ℕ, suc, ◌-◌, ◌<◌, ◌==◌, Bool, true, false, ◌&&◌, cond, Option, Some, None, refl, sym, ap, ◌∙◌, arith, slice_index_or}
use Rattle.std.proofs.lemmas.Bool.{or_parts, eqb-true}
use Rattle.std.proofs.lemmas.Bool.Decides.{nat_tests}
use Rattle.clock_divider.specs.Ticks.{is_tick}
use Rattle.clock_divider.specs.Timing.{Timing, resumed, stepped}
use Rattle.sm_registers.specs.declared.registers.Registers.{Registers}
use Rattle.sm_registers.specs.declared.intent.Intent.{Intent}
use Rattle.sm_registers.specs.State.{queues_of}
use Rattle.sm_registers.specs.View.{View}
use Rattle.sm_registers.proofs.Ticks.{in_delay, rest_delay}
use Rattle.dreq_pacing.specs.declared.due.Due.{Due}
use Rattle.block_core.specs.Conduct.{clock_of_tick, is_broken_by, is_lined_by, rests_in}
use Rattle.block_core.specs.Slots.{Slot, acted, has_tick, lined, settled_slot, slot_after}
use Rattle.block_core.proofs.TickNumbers.{not_past, tick_now, tick_over, tick_waits}

-- no delay is left
abbrev pub is_at_rest : Slot → Bool
is_at_rest s = s.machine.registers.delay == 0

-- where one is left, the clock in which it is over if no line acts on the machine
abbrev rest_by : (enabled : Bool) → Timing → (delay : ℕ) → Option ℕ
rest_by enabled t delay = cond enabled (Some (clock_of_tick t (delay - 1))) None

abbrev pub left_in : Slot → Option ℕ
left_in s = rest_by s.enabled s.timing s.machine.registers.delay

pub rests-left : (clock : ℕ) (s : Slot) → is_at_rest s ≡ false → rests_in clock s ≡ left_in s
unfolding rests_in
rests-left clock s more = ap (λ (b : Bool). cond b (Some clock) (left_in s)) more

pub rests-over : (clock : ℕ) (s : Slot) → is_at_rest s ≡ true → rests_in clock s ≡ Some clock
unfolding rests_in
rests-over clock s over = ap (λ (b : Bool). cond b (Some clock) (left_in s)) over

-- it isn't over in a clock that has gone by
pub left_later : (s : Slot) (clock r : ℕ) → s.timing.clock ≡ suc clock → left_in s ≡ Some r → clock < r
left_later s clock r at is = on s.enabled is where
  on : (b : Bool) → rest_by b s.timing s.machine.registers.delay ≡ Some r → clock < r
  on true h =
      let low = not_past s.timing (s.machine.registers.delay - 1) in
      let same : clock_of_tick s.timing (s.machine.registers.delay - 1) ≡ r = cc in
      omega arith
  on false h = cc

-- one clock of a machine in a delay: a tick takes one from it
abbrev after_tick : (ticks : Bool) → (delay : ℕ) → ℕ
after_tick ticks delay = cond ticks (delay - 1) delay

abbrev told_by : (clock : ℕ) → (enabled : Bool) → Timing → (delay : ℕ) → Option ℕ
told_by clock enabled t delay = cond (delay == 0) (Some clock) (rest_by enabled t delay)

is_some_left : (n : ℕ) → (n == 0) ≡ false → 0 < n
is_some_left n h = grind (arith, nat_tests)

-- the tick of this clock was the last one of the delay, or the next one comes later
one_tick : (t : Timing) (left clock : ℕ) (over : Bool) → t.clock ≡ clock → is_tick t.restarted t.period t.clock ≡ true → (left == 0) ≡ over
    → cond over (Some clock) (Some (clock_of_tick (stepped t) (left - 1))) ≡ Some (clock_of_tick t left)
one_tick t left clock true at is over = ap Some (sym at ∙ sym (tick_now t is) ∙ ap (clock_of_tick t) (sym (eqb-true left 0 over)))
one_tick t left clock false at is over =
    let some = is_some_left left over in
    ap Some (tick_over t (left - 1) is ∙ ap (clock_of_tick t) (let z : suc (left - 1) ≡ left = omega arith in z))

enabled_clock : (t : Timing) (delay clock : ℕ) (ticks : Bool) → t.clock ≡ clock → is_tick t.restarted t.period t.clock ≡ ticks → (delay == 0) ≡ false
    → told_by clock true (stepped t) (after_tick ticks delay) ≡ Some (clock_of_tick t (delay - 1))
enabled_clock t delay clock true at is more = one_tick t (delay - 1) clock ((delay - 1) == 0) at is refl
enabled_clock t delay clock false at is more =
    ap (λ (b : Bool). cond b (Some clock) (Some (clock_of_tick (stepped t) (delay - 1)))) more ∙ ap Some (tick_waits t (delay - 1) is)

one_clock : (enabled : Bool) (t : Timing) (delay clock : ℕ) → t.clock ≡ clock → (delay == 0) ≡ false
    → told_by clock enabled (stepped t) (after_tick (enabled && is_tick t.restarted t.period t.clock) delay) ≡ rest_by enabled t delay
one_clock true t delay clock at more = enabled_clock t delay clock (is_tick t.restarted t.period t.clock) at refl more
one_clock false t delay clock at more = ap (λ (b : Bool). cond {A = Option ℕ} b (Some clock) None) more

-- without a line it is as it was
same_enabled : (enable disable enabled : Bool) → enable ≡ false → disable ≡ false → cond enable true (cond disable false enabled) ≡ enabled
same_enabled enable disable enabled e d = rw (e, d) refl

same_timing : (restarts : Bool) (t : Timing) → restarts ≡ false → cond restarts (resumed t) t ≡ t
same_timing restarts t e = rw e refl

record IsSame (d : Due) (s : Slot) : Type 0 where
  enabled : (lined d s).enabled ≡ s.enabled
  timing : (lined d s).timing ≡ s.timing

is_same : (d : Due) (s : Slot) → is_lined_by d s.machine.setup.id ≡ false → IsSame d s
is_same d s none =
    let id = s.machine.setup.id in
    let parts = or_parts (is_broken_by d id) (slice_index_or d.enable id false) none in
    let breaks = or_parts (slice_index_or d.disable id false) (slice_index_or d.restart id false) parts.0 in
    record {
      enabled = same_enabled (slice_index_or d.enable id false) (slice_index_or d.disable id false) s.enabled parts.1 breaks.0;
      timing = same_timing (slice_index_or d.restart id false) s.timing breaks.1;
    }

-- the delay after the clock
delay_by : (v : View) (s : Slot) (ticks : Bool) → has_tick s ≡ ticks → is_at_rest s ≡ false → (acted v s).0.delay ≡ after_tick ticks s.machine.registers.delay
unfolding acted
delay_by v s true ticks more =
    let r = s.machine.registers in
    let q = queues_of s.machine.ports.fifos in
    rw ticks (ap (λ (x : Registers × Intent). x.0.delay) (in_delay s.machine.setup v q r (is_some_left r.delay more)) ∙ (rest_delay s.machine.setup q r).delay)
delay_by v s false ticks more = rw ticks refl

told_with : (clock : ℕ) (e f : Bool) (t u : Timing) (m n : ℕ) → e ≡ f → t ≡ u → m ≡ n → told_by clock e t m ≡ told_by clock f u n
told_with clock e f t u m n p q r = ap (λ b. told_by clock b t m) p ∙ ap (λ x. told_by clock f x m) q ∙ ap (told_by clock f u) r

-- A clock in which no line acts on a machine leaves the end of its delay as it was told.
pub stays_told : (v : View) (d : Due) (s : Slot) (clock : ℕ) → s.timing.clock ≡ clock → is_lined_by d s.machine.setup.id ≡ false → is_at_rest s ≡ false → rests_in clock (slot_after v d s) ≡ left_in s
unfolding rests_in settled_slot
stays_told v d s clock at none more =
    let l = lined d s in
    let same = is_same d s none in
    let ticks : has_tick l ≡ (s.enabled && is_tick s.timing.restarted s.timing.period s.timing.clock) =
    ap (λ (b : Bool). b && is_tick l.timing.restarted l.timing.period l.timing.clock) same.enabled ∙ ap (λ (t : Timing). s.enabled && is_tick t.restarted t.period t.clock) same.timing in
    told_with clock l.enabled s.enabled (stepped l.timing) (stepped s.timing) (acted v l).0.delay (after_tick (s.enabled && is_tick s.timing.restarted s.timing.period s.timing.clock) s.machine.registers.delay)
    same.enabled (ap stepped same.timing)
    (delay_by v l (has_tick l) refl more ∙ ap (λ (b : Bool). after_tick b s.machine.registers.delay) ticks)
    ∙ one_clock s.enabled s.timing s.machine.registers.delay clock at more
