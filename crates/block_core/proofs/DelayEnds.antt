-- The clock in which the last tick of a delay comes, by the numbers of ticks.
use Rattle.std.proofs.Common.{◌≡◌, ℕ, zero, suc, ◌+◌, ◌-◌, ◌*◌, ◌/◌, ◌<◌, max, Bool, true, false, IsTrue, ◌==◌, ◌&&◌, Option, Some, None, cond, nat_lt, slice_index_or, refl, sym, ap, ◌∙◌, add-zero, arith}
use Rattle.std.proofs.lemmas.Bool.{or_parts}
use Rattle.std.proofs.lemmas.Bool.Decides.{nat_tests}
use Rattle.clock_divider.specs.Ticks.{is_tick, tick_count}
use Rattle.clock_divider.specs.Timing.{Timing, stepped}
use Rattle.pin_matrix.specs.declared.machine.MachineSetup.{MachineSetup}
use Rattle.sm_registers.specs.declared.registers.Registers.{Registers}
use Rattle.sm_registers.specs.Intents.{no_intent}
use Rattle.sm_registers.specs.Queues.{Queues}
use Rattle.sm_registers.specs.State.{queues_of}
use Rattle.sm_registers.specs.Tick.{tick_delay, tick_of}
use Rattle.sm_registers.specs.View.{View}
use Rattle.dreq_pacing.specs.declared.due.Due.{Due}
use Rattle.block_core.specs.Conduct.{clock_of_tick, is_broken_by, is_lined_by, next_tick, period_in, rests_in}
use Rattle.block_core.specs.Slots.{Slot, acted, has_tick, lined, settled_slot, slot_after}
use Rattle.block_core.proofs.Insides.{refilled_keeps}
use Rattle.block_core.proofs.TickNumbers.{clock_of, number, number_more}

-- some clocks more: their ticks are counted
numbers_more : (restarted period clock n : ℕ) → number (max 256 period) (clock + n - restarted) ≡ number (max 256 period) (clock - restarted) + tick_count restarted period clock n
unfolding tick_count
numbers_more restarted period clock zero = rw (add-zero clock) (omega arith)
numbers_more restarted period clock (suc n) =
    let one : clock + suc n ≡ clock + n + 1 = omega arith in
    ap (λ (c : ℕ). number (max 256 period) (c - restarted)) one
    ∙ number_more restarted period (clock + n)
    ∙ ap (λ (k : ℕ). k + cond (is_tick restarted period (clock + n)) 1 0) (numbers_more restarted period clock n)
    ∙ omega arith

-- The clock that is a tick, with so many before it from the present one on, is that of its number.
pub tick-later : (t : Timing) (n clocks : ℕ) → IsTrue (is_tick t.restarted t.period (t.clock + clocks)) → tick_count t.restarted t.period t.clock clocks ≡ n → t.clock + clocks ≡ clock_of_tick t n
unfolding clock_of_tick next_tick
tick-later t n clocks ticks count =
    sym (ap (λ (k : ℕ). t.restarted + k * period_in t / 256) (ap (λ (m : ℕ). next_tick t + m) (sym count) ∙ sym (numbers_more t.restarted t.period t.clock clocks)) ∙ clock_of t.restarted t.period (t.clock + clocks) ticks)

some_left : (delay : ℕ) → (delay ≡ 0 → ⊥) → nat_lt 0 delay ≡ true
some_left zero none = absurd (none refl)
some_left (suc n) none = grind (arith, nat_tests)

is_left : (delay : ℕ) → (delay ≡ 0 → ⊥) → (delay == 0) ≡ false
is_left zero none = absurd (none refl)
is_left (suc n) none = grind (arith, nat_tests)

-- what a machine that is in a delay and enabled tells
pub rests-later : (clock clocks ticks : ℕ) (s : Slot) → s.timing.clock ≡ clock + 1 → (s.machine.registers.delay ≡ 0 → ⊥) → s.enabled ≡ true → IsTrue (is_tick s.timing.restarted s.timing.period (s.timing.clock + clocks)) → tick_count s.timing.restarted s.timing.period s.timing.clock clocks ≡ ticks → ticks ≡ s.machine.registers.delay - 1 → Some (clock + 1 + clocks) ≡ rests_in clock s
unfolding rests_in
rests-later clock clocks ticks s step delays enabled now count left =
    rw (is_left s.machine.registers.delay delays, enabled) (ap (λ (c : ℕ). Some c) (ap (λ (c : ℕ). c + clocks) (sym step) ∙ tick-later s.timing (s.machine.registers.delay - 1) clocks now (count ∙ left)))

-- one clock on, the tick that comes so many ticks later is that of one more where the clock was a tick
clock_on : (t : Timing) (later : ℕ) → clock_of_tick (stepped t) later ≡ clock_of_tick t (cond (is_tick t.restarted t.period t.clock) 1 0 + later)
unfolding clock_of_tick next_tick
clock_on t later =
    ap (λ (k : ℕ). t.restarted + k * period_in t / 256)
    (ap (λ (k : ℕ). k + later) (number_more t.restarted t.period t.clock)
    ∙ omega arith)

-- what is told of a delay, by what is left of it
abbrev told : (clock delay : ℕ) (enabled : Bool) → Timing → Option ℕ
told clock delay enabled t = cond (delay == 0) (Some clock) (cond enabled (Some (clock_of_tick t (delay - 1))) None)

told_left : (clock n : ℕ) (enabled : Bool) (t : Timing) → told clock (suc n) enabled t ≡ cond enabled (Some (clock_of_tick t n)) None
told_left clock n enabled t =
    let some : (suc n == 0) ≡ false = grind (arith, nat_tests) in
    let one : suc n - 1 ≡ n = omega arith in
    rw (some, one) refl

-- the same one clock on, with so much left of it then
told_next : (clock left n : ℕ) (enabled : Bool) (t : Timing) → left ≡ suc n → told (clock + 1) left enabled (stepped t) ≡ cond enabled (Some (clock_of_tick t (cond (is_tick t.restarted t.period t.clock) 1 0 + n))) None
told_next clock left n enabled t is =
    ap (λ (k : ℕ). told (clock + 1) k enabled (stepped t)) is
    ∙ told_left (clock + 1) n enabled (stepped t)
    ∙ ap (λ (k : ℕ). cond enabled (Some k) None) (clock_on t n)

none_counted : (t : Timing) → tick_count t.restarted t.period t.clock 0 ≡ 0
unfolding tick_count
none_counted t = refl

told_on : (clock n : ℕ) (t : Timing) (ticks : Bool) → t.clock ≡ clock + 1 → is_tick t.restarted t.period t.clock ≡ ticks → told (clock + 1) (suc n - cond ticks 1 0) true (stepped t) ≡ Some (clock_of_tick t n)
told_on clock zero t true step now =
    let over : suc zero - 1 ≡ 0 = omega arith in
    let same = ap (λ (c : ℕ). is_tick t.restarted t.period c) (add-zero t.clock) in
    let here : t.clock + 0 ≡ clock_of_tick t 0 = tick-later t 0 0 (same ∙ now) (none_counted t) in
    ap (λ (k : ℕ). told (clock + 1) k true (stepped t)) over
    ∙ ap (λ (c : ℕ). Some c) (sym step ∙ sym (add-zero t.clock) ∙ here)
told_on clock (suc n) t true step now =
    told_next clock (suc (suc n) - 1) n true t (omega arith)
    ∙ ap (λ (k : ℕ). Some (clock_of_tick t k)) (ap (λ (b : Bool). cond b 1 0 + n) now ∙ omega arith)
told_on clock n t false step now =
    told_next clock (suc n - 0) n true t (omega arith)
    ∙ ap (λ (k : ℕ). Some (clock_of_tick t k)) (ap (λ (b : Bool). cond b 1 0 + n) now ∙ omega arith)

told_stays : (clock delay : ℕ) (enabled : Bool) (t : Timing) → t.clock ≡ clock + 1 → (delay ≡ 0 → ⊥) → told (clock + 1) (delay - cond (enabled && is_tick t.restarted t.period t.clock) 1 0) enabled (stepped t) ≡ told clock delay enabled t
told_stays clock zero enabled t step delays = absurd (delays refl)
told_stays clock (suc n) false t step delays = told_next clock (suc n - 0) n false t (omega arith) ∙ sym (told_left clock n false t)
told_stays clock (suc n) true t step delays = told_on clock n t (is_tick t.restarted t.period t.clock) step refl ∙ sym (told_left clock n true t)

-- a tick in a delay takes one of it
tick_takes : (s : MachineSetup) (v : View) (q : Queues) (r : Registers) → nat_lt 0 r.delay ≡ true → (tick_of s v q r).0.delay ≡ r.delay - 1
unfolding tick_of tick_delay
tick_takes s v q r left = rw left (refilled_keeps (λ r. r.delay) (λ word r. refl) s q (record r { delay = r.delay - 1 }))

clock_takes : (v : View) (s : Slot) → nat_lt 0 s.machine.registers.delay ≡ true → (acted v s).0.delay ≡ s.machine.registers.delay - cond (has_tick s) 1 0
unfolding acted
clock_takes v s left =
    let m = s.machine in
    let tick = tick_of m.setup v (queues_of m.ports.fifos) m.registers in
    elim (has_tick s) as (λ b. (cond b tick (m.registers, no_intent)).0.delay ≡ m.registers.delay - cond b 1 0) [
      | true ↦ tick_takes m.setup v (queues_of m.ports.fifos) m.registers left
      | false ↦ omega arith
    ]

-- a machine on which no line acts
unlined : (d : Due) (s : Slot) → is_lined_by d s.machine.setup.id ≡ false → lined d s ≡ s
unlined d s none =
    let id = s.machine.setup.id in
    let parts = or_parts (is_broken_by d id) (slice_index_or d.enable id false) none in
    let broken = or_parts (slice_index_or d.disable id false) (slice_index_or d.restart id false) parts.0 in
    rw (parts.1, broken.0, broken.1) refl

settled_stays : (v : View) (d : Due) (clock : ℕ) (s : Slot) → s.timing.clock ≡ clock + 1 → (s.machine.registers.delay ≡ 0 → ⊥) → rests_in (clock + 1) (settled_slot d (acted v s) s) ≡ rests_in clock s
unfolding rests_in settled_slot
settled_stays v d clock s step delays =
    let left : nat_lt 0 s.machine.registers.delay ≡ true = some_left s.machine.registers.delay delays in
    ap (λ (n : ℕ). told (clock + 1) n s.enabled (stepped s.timing)) (clock_takes v s left)
    ∙ told_stays clock s.machine.registers.delay s.enabled s.timing step delays

pub rests-stays : (v : View) (d : Due) (clock : ℕ) (s : Slot) → s.timing.clock ≡ clock + 1 → 0 < s.machine.registers.delay → is_lined_by d s.machine.setup.id ≡ false → rests_in (clock + 1) (slot_after v d s) ≡ rests_in clock s
rests-stays v d clock s step delays none =
    ap (λ (u : Slot). rests_in (clock + 1) (settled_slot d (acted v u) u)) (unlined d s none)
    ∙ settled_stays v d clock s step (λ no. omega (arith, no, delays))
