-- A simple clock of a machine, in which the system does nothing: it wants no more than pins.
use Rattle.std.proofs.Common.{◌≡◌, true, false, cond, refl, ap, subst, sym, ◌∙◌}
use Rattle.std.specs.Int.Bits.{or_zero_l, or_zero_r}
use Rattle.clock_divider.specs.Timing.{Timing, stepped}
use Rattle.pin_matrix.specs.Pins.{merged}
use Rattle.sm_registers.specs.declared.outputs.Outputs.{Outputs}
use Rattle.sm_registers.specs.declared.registers.Registers.{Registers}
use Rattle.sm_registers.specs.View.{View}
use Rattle.sm_registers.specs.declared.intent.Intent.{Intent}
use Rattle.sm_registers.specs.Intents.{Wants, no_intent, no_wants, wants_of, written_by}
use Rattle.sm_registers.specs.Simple.{MakesTick}
use Rattle.sm_registers.specs.State.{MachineState, queues_of, settled_ports}
use Rattle.sm_registers.specs.Tick.{tick_of}
use Rattle.dreq_pacing.specs.Due.{quiet}
use Rattle.block_core.specs.declared.merging.Wanted.{Wanted}
use Rattle.block_core.specs.Merging.{with_intent}
use Rattle.block_core.specs.Slots.{MakesSimpleClock, Slot, lined, has_tick, acted, settled_slot, slot_after, slot_intent, slot_uses_fifos}
use Rattle.block_core.proofs.LeaptRun.{no_line, no_word, lined_quiet, clock_on}
use Rattle.block_core.proofs.Unused.{StaysQuiet}

-- its tick
abbrev pub ticked : View → Slot → Registers × Intent
ticked v s = tick_of s.machine.setup v (queues_of s.machine.ports.fifos) s.machine.registers

-- it wants nothing but pins
abbrev pub WantsPins : Intent → Type 0
WantsPins i = wants_of i ≡ no_wants

pub acts : (v : View) (s : Slot) → has_tick s ≡ true → acted v (lined quiet s) ≡ ticked v s
unfolding acted
acts v s on = ap (acted v) (lined_quiet s) ∙ ap (λ b. cond b (ticked v s) (s.machine.registers, no_intent)) on

-- the same without a tick
pub acts_off : (v : View) (s : Slot) → has_tick s ≡ false → acted v (lined quiet s) ≡ (s.machine.registers, no_intent)
unfolding acted
acts_off v s off = ap (acted v) (lined_quiet s) ∙ ap (λ b. cond b (ticked v s) (s.machine.registers, no_intent)) off

-- so its FIFOs and its sticky flags stay
settled_pins : StaysQuiet → (s : Slot) (x : Registers × Intent) → WantsPins x.1 → settled_slot quiet x s ≡ clock_on s x.0
unfolding settled_slot settled_ports
settled_pins fifos s x none =
    rw (
      ap (λ (w : Wants). w.take) none,
      ap (λ (w : Wants). w.word) none,
      ap (λ (w : Wants). w.sticky) none,
      no_line s.machine.setup.id,
      no_word s.machine.setup.id,
      fifos s.machine.ports.fifos,
      or_zero_l s.machine.ports.sticky,
      or_zero_l s.machine.ports.sticky,
    ) refl

pub after_simple : StaysQuiet → (v : View) (s : Slot) (x : Registers × Intent) → acted v (lined quiet s) ≡ x → WantsPins x.1 → clock_on s x.0 ≡ slot_after v quiet s
after_simple fifos v s x is none =
    sym (ap (λ t. settled_slot quiet (acted v (lined quiet s)) t) (lined_quiet s)
    ∙ ap (λ y. settled_slot quiet y s) is
    ∙ settled_pins fifos s x none)

-- where nothing is wanted, no pin is written
writes_none : (o : Outputs) → o ≡ written_by o no_intent
unfolding merged
writes_none o = refl

-- a clock in which the tick of a slot, which was this, is simple
pub ticks_simply :
    StaysQuiet → (v : View) (s was : Slot) (m : MachineState) (t : Timing) (o put : Outputs) → s ≡ was → has_tick was ≡ true → MakesTick v s.machine m o put → t ≡ stepped s.timing
    → MakesSimpleClock v was (record s { machine = m; timing = t }) o put
ticks_simply fifos v s was m t o put same on made moved =
    let acts_so = acts v s (subst (λ (x : Slot). has_tick x ≡ true) (sym same) on) in
    subst (λ (x : Slot). MakesSimpleClock v x (record s { machine = m; timing = t }) o put) same (record {
      after = ap (λ (m : MachineState). record s { machine = m; timing = t }) made.state
          ∙ ap (λ (t : Timing). record s { machine = record s.machine { registers = (ticked v s).0 }; timing = t }) moved
          ∙ after_simple fifos v s (ticked v s) acts_so made.wants;
      outputs = made.outputs ∙ ap (λ (x : Registers × Intent). written_by o x.1) (sym acts_so);
      wants = subst (λ (x : Registers × Intent). WantsPins x.1) (sym acts_so) made.wants;
    })

-- a clock without a tick
pub rests_simply : StaysQuiet → (v : View) (s was : Slot) (t : Timing) (o : Outputs) → s ≡ was → has_tick was ≡ false → t ≡ stepped s.timing → MakesSimpleClock v was (record s { timing = t }) o o
rests_simply fifos v s was t o same off moved =
    let rests = acts_off v s (subst (λ (x : Slot). has_tick x ≡ false) (sym same) off) in
    subst (λ (x : Slot). MakesSimpleClock v x (record s { timing = t }) o o) same (record {
      after = ap (λ (t : Timing). record s { timing = t }) moved ∙ after_simple fifos v s (s.machine.registers, no_intent) rests refl;
      outputs = writes_none o ∙ ap (λ (x : Registers × Intent). written_by o x.1) (sym rests);
      wants = subst (λ (x : Registers × Intent). WantsPins x.1) (sym rests) refl;
    })

-- its block gets its pins, and no more
pub adds_pins : (w : Wanted) (o : Outputs) (i : Intent) → o ≡ written_by w.outputs i → WantsPins i → record w { outputs = o } ≡ with_intent w i
unfolding with_intent
adds_pins w o i e none =
    rw (
      e,
      ap (λ (x : Wants). x.clears) none,
      ap (λ (x : Wants). x.sets) none,
      or_zero_r w.clears,
      or_zero_r w.sets,
    ) refl

pub uses_none : (v : View) (s : Slot) → WantsPins (slot_intent v quiet s) → false ≡ slot_uses_fifos v quiet s
uses_none v s none =
    rw (
      ap (λ (x : Wants). x.take) none,
      ap (λ (x : Wants). x.word) none,
      no_word s.machine.setup.id,
      no_line s.machine.setup.id,
    ) refl
