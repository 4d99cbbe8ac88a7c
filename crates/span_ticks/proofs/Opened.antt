-- A tick, opened: what the checker follows of the registers after it, and which levels it writes.
use Rattle.std.proofs.Common.{◌≡◌, ℕ, ◌-◌, ◌<◌, nat_lt, nat_le, Bool, true, false, ◌&&◌, cond, if◌then◌else◌, Option, Some, None, is_some, unwrap_or, [], ◌∷◌, slice_index, refl, sym, ap, ◌∙◌, arith}
use Rattle.std.proofs.lemmas.Bool.Decides.{nat_tests}
use Rattle.pio_encode.specs.declared.op.Op.{Op}
use Rattle.pio_encode.specs.Word.{reading_of}
use Rattle.pin_matrix.specs.Pins.{writes_of}
use Rattle.pin_matrix.specs.Spans.{side_signal}
use Rattle.pin_matrix.specs.declared.machine.MachineSetup.{MachineSetup}
use Rattle.pin_matrix.specs.declared.setup.Setup.{Setup}
use Rattle.pin_matrix.specs.declared.span.PinSignal.{PinSignal}
use Rattle.pin_matrix.specs.declared.span.PinSignal.TheVariants.{Level, Direction}
use Rattle.pin_matrix.specs.declared.span.Span.{Span}
use Rattle.sm_registers.specs.declared.registers.Registers.{Registers}
use Rattle.sm_registers.specs.View.{View}
use Rattle.sm_registers.specs.Queues.{Queues}
use Rattle.sm_registers.specs.Effects.{Effect, effect_of}
use Rattle.sm_registers.specs.Tick.{current_word, word_at, pc_after, delay_after, after_effect, refilled, osr_filled_from, side_writes, tick_delay, tick_by, tick_word, tick_of}
use Rattle.span_step.specs.Outcomes.{ContextOutcome, level_at, signal_at}
use Rattle.span_step.specs.Courses.{over}
use Rattle.span_step.specs.Steps.{next_address, side_of, address_after}
use Rattle.span_ticks.specs.Following.{writes_to, level_after}
use Rattle.span_ticks.specs.UnderWay.{Flow, flow_of, op_at}
use Rattle.span_ticks.proofs.Explained.{effect_write, Explains, level_none}

-- a refill changes nothing that the checker follows
flow_if : (b : Bool) (x y : Registers) → flow_of x ≡ flow_of y → flow_of (cond b x y) ≡ flow_of y
flow_if true x y h = h
flow_if false x y h = refl

flow_filled : (front : Option ℕ) (r : Registers) → flow_of (osr_filled_from front r) ≡ flow_of r
flow_filled None r = refl
flow_filled (Some word) r = refl

flow_refilled : (s : MachineSetup) (q : Queues) (r : Registers) → flow_of (refilled s q r) ≡ flow_of r
flow_refilled s q r = flow_if (s.autopull && nat_le s.pull_threshold r.out_count) _ r (flow_filled q.front r)

-- a tick of a delay
pub delay_here : (s : MachineSetup) (v : View) (q : Queues) (r : Registers) → 0 < r.delay → tick_of s v q r ≡ tick_delay s q r
unfolding tick_of
delay_here s v q r h = let left : nat_lt 0 r.delay ≡ true = grind (arith, nat_tests) in rw left refl

pub flow_delay : (s : MachineSetup) (q : Queues) (r : Registers) → flow_of (tick_delay s q r).0 ≡ record (flow_of r) { delay = r.delay - 1 }
unfolding tick_delay
flow_delay s q r = flow_refilled s q (record r { delay = r.delay - 1 })

-- a tick of the instruction in memory
pub tick_here : (u : Setup) (s : MachineSetup) (v : View) (q : Queues) (r : Registers) (address : ℕ) → v.memory ≡ u.memory → r.pending ≡ None → r.delay ≡ 0 → address ≡ r.pc
    → tick_of s v q r ≡ tick_by (op_at u s address) s q r (effect_of (op_at u s address).act s v q r)
unfolding tick_of tick_word
tick_here u s v q r address memory pending left here =
    let none : nat_lt 0 r.delay ≡ false = grind (arith, nat_tests) in
    let word : current_word v r ≡ slice_index u.memory address =
    ap (λ p. word_at p v r.pc) pending ∙ ap (λ m. slice_index m r.pc) memory ∙ ap (λ a. slice_index u.memory a) (sym here) in
    ap (λ b. cond b (tick_delay s q r) (tick_word (reading_of (current_word v r) s.side_rule) s v q r)) none
    ∙ ap (λ w. tick_word (reading_of w s.side_rule) s v q r) word

-- where it finishes
pub flow_done : (op : Op) (s : MachineSetup) (sp : Span) (q : Queues) (r : Registers) (e : Effect) (o : ContextOutcome) (address : ℕ) → r.pending ≡ None → address ≡ r.pc → e.stalled ≡ false → Explains sp e o
    → flow_of (tick_by op s q r e).0 ≡ record { pc = address_after o.jump (next_address s address); x = e.registers.x; y = e.registers.y; delay = op.delay; pending = None; begun = false }
unfolding tick_by after_effect
flow_done op s sp q r e o address pending here ends x =
    let y : flow_of (refilled s q (after_effect op.delay s r e)) ≡ flow_of (after_effect op.delay s r e) = flow_refilled s q (after_effect op.delay s r e) in
    let done : Registers = record e.registers { pc = pc_after e.jump (is_some r.pending) s r; pending = e.pending; delay = delay_after e.pending op.delay; begun = false } in
    let goes : pc_after e.jump (is_some r.pending) s r ≡ address_after o.jump (next_address s address) =
    ap (λ j. pc_after j (is_some r.pending) s r) x.jump ∙ ap (λ p. pc_after o.jump (is_some p) s r) pending ∙ to_next o.jump in
    y ∙ ap (λ b. flow_of (cond b (record e.registers { begun = true }) done)) ends
    ∙ ap (λ p. record { pc = p; x = e.registers.x; y = e.registers.y; delay = delay_after e.pending op.delay; pending = e.pending; begun = false }) goes
    ∙ ap (λ p. record { pc = address_after o.jump (next_address s address); x = e.registers.x; y = e.registers.y; delay = delay_after p op.delay; pending = p; begun = false }) x.pending where
      to_next : (j : Option ℕ) → pc_after j false s r ≡ address_after j (next_address s address)
      to_next (Some a) = refl
      to_next None = ap (λ a. next_address s a) (sym here)

-- where it stalls
pub flow_stalled : (op : Op) (s : MachineSetup) (q : Queues) (r : Registers) (e : Effect) → e.stalled ≡ true → flow_of e.registers ≡ flow_of r
    → flow_of (tick_by op s q r e).0 ≡ record (flow_of r) { begun = true }
unfolding tick_by after_effect
flow_stalled op s q r e stalls same =
    let done : Registers = record e.registers { pc = pc_after e.jump (is_some r.pending) s r; pending = e.pending; delay = delay_after e.pending op.delay; begun = false } in
    flow_refilled s q (after_effect op.delay s r e) ∙ ap (λ b. flow_of (cond b (record e.registers { begun = true }) done)) stalls
    ∙ ap (λ (f : Flow). record f { begun = true }) same

-- two writes to a pin
pub two_levels : (p : ℕ) (first second : ℕ × ℕ) (a b : Option Bool) (level : Bool) → level_at p second ≡ a → level_at p first ≡ b
    → unwrap_or a (unwrap_or b level) ≡ level_after p (first ∷ second ∷ []) level
two_levels p first second a b level h k = rw (← h, ← k) refl

pub over_levels : (a b : Option Bool) (level : Bool) → unwrap_or (over a b) level ≡ unwrap_or a (unwrap_or b level)
over_levels (Some x) b level = refl
over_levels None b level = refl

-- side-set's write to the watched signal: to levels, or to directions
abbrev pub side_write : Option PinSignal → MachineSetup → Option ℕ → Bool → ℕ × ℕ
side_write None s side begun = (0, 0)
side_write (Some Level) s side begun = if s.side_rule.pindirs then (0, 0) else side_writes side begun s
side_write (Some Direction) s side begun = if s.side_rule.pindirs then side_writes side begun s else (0, 0)

-- what a tick writes: its instruction, and then side-set
tick_writes : (signal : PinSignal) (op : Op) (s : MachineSetup) (q : Queues) (r : Registers) (e : Effect) → writes_to (Some signal) (tick_by op s q r e).1 ≡ effect_write (Some signal) e ∷ side_write (Some signal) s op.side r.begun ∷ []
unfolding tick_by
tick_writes Level op s q r e = refl
tick_writes Direction op s q r e = refl

none_levels : (a b : Option Bool) (level : Bool) → a ≡ None → b ≡ None → unwrap_or a (unwrap_or b level) ≡ level
none_levels a b level h k = rw (h, k) refl

pub tick_levels : (signal : Option PinSignal) (p : ℕ) (op : Op) (s : MachineSetup) (q : Queues) (r : Registers) (e : Effect) (a b : Option Bool) (level : Bool) → level_at p (side_write signal s op.side r.begun) ≡ a → level_at p (effect_write signal e) ≡ b
    → unwrap_or a (unwrap_or b level) ≡ level_after p (writes_to signal (tick_by op s q r e).1) level
tick_levels None p op s q r e a b level h k = none_levels a b level (sym h ∙ level_none p) (sym k ∙ level_none p)
tick_levels (Some signal) p op s q r e a b level h k =
    two_levels p (effect_write (Some signal) e) (side_write (Some signal) s op.side r.begun) a b level h k
    ∙ ap (λ writes. level_after p writes level) (sym (tick_writes signal op s q r e))

-- a tick of a delay writes nothing
pub delay_levels : (signal : Option PinSignal) (p : ℕ) (s : MachineSetup) (q : Queues) (r : Registers) (level : Bool) → level ≡ level_after p (writes_to signal (tick_delay s q r).1) level
unfolding tick_delay
delay_levels None p s q r level = refl
delay_levels (Some Level) p s q r level = two_levels p (0, 0) (0, 0) None None level (level_none p) (level_none p)
delay_levels (Some Direction) p s q r level = two_levels p (0, 0) (0, 0) None None level (level_none p) (level_none p)

no_side : (b : Bool) (p : ℕ) → level_at p (cond b (0, 0) (0, 0)) ≡ None
no_side true p = level_none p
no_side false p = level_none p

-- side-set's value, to the signal that its rule says
side_at : (watched : Option PinSignal) (p : ℕ) (s : MachineSetup) (value : ℕ) → level_at p (side_write watched s (Some value) false) ≡ signal_at (side_signal s) watched p (writes_of s.side value)
side_at None p s value = by s.side_rule.pindirs where
  by : (b : Bool) → level_at p (0, 0) ≡ signal_at (cond {A = PinSignal} b Direction Level) None p (writes_of s.side value)
  by true = level_none p
  by false = level_none p
side_at (Some Level) p s value = by s.side_rule.pindirs where
  by : (b : Bool) → level_at p (cond b (0, 0) (writes_of s.side value)) ≡ signal_at (cond {A = PinSignal} b Direction Level) (Some Level) p (writes_of s.side value)
  by true = level_none p
  by false = refl
side_at (Some Direction) p s value = by s.side_rule.pindirs where
  by : (b : Bool) → level_at p (cond b (writes_of s.side value) (0, 0)) ≡ signal_at (cond {A = PinSignal} b Direction Level) (Some Direction) p (writes_of s.side value)
  by true = refl
  by false = level_none p

side_none : (signal : Option PinSignal) (p : ℕ) (s : MachineSetup) (begun : Bool) → level_at p (side_write signal s None begun) ≡ None
side_none None p s begun = level_none p
side_none (Some Level) p s begun = no_side s.side_rule.pindirs p
side_none (Some Direction) p s begun = no_side s.side_rule.pindirs p

pub side_from : (s : MachineSetup) (sp : Span) (side : Option ℕ) (begun : Bool) → begun ≡ false → level_at sp.from_pin (side_write sp.from_signal s side begun) ≡ (side_of s sp side).from
side_from s sp None begun h = side_none sp.from_signal sp.from_pin s begun
side_from s sp (Some value) true h = absurd (let x : true ≡ false = h in cc)
side_from s sp (Some value) false h = side_at sp.from_signal sp.from_pin s value

pub side_to : (s : MachineSetup) (sp : Span) (side : Option ℕ) (begun : Bool) → begun ≡ false → level_at sp.to_pin (side_write sp.to_signal s side begun) ≡ (side_of s sp side).to
side_to s sp None begun h = side_none sp.to_signal sp.to_pin s begun
side_to s sp (Some value) true h = absurd (let x : true ≡ false = h in cc)
side_to s sp (Some value) false h = side_at sp.to_signal sp.to_pin s value

-- an instruction that has begun writes no side-set
pub side_late : (signal : Option PinSignal) (p : ℕ) (s : MachineSetup) (side : Option ℕ) (begun : Bool) → begun ≡ true → level_at p (side_write signal s side begun) ≡ None
side_late signal p s None begun h = side_none signal p s begun
side_late signal p s (Some value) false h = absurd (let x : false ≡ true = h in cc)
side_late None p s (Some value) true h = level_none p
side_late (Some Level) p s (Some value) true h = no_side s.side_rule.pindirs p
side_late (Some Direction) p s (Some value) true h = no_side s.side_rule.pindirs p
