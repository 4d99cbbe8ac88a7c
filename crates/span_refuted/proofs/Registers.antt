-- The ticks of a machine at instructions with one way, by its registers.
use Rattle.std.proofs.Common.{◌≡◌, ℕ, suc, ◌-◌, nat_lt, Bool, true, false, cond, Option, Some, None, is_some, List, [], ◌∷◌, unwrap_or, slice_index, refl, sym, ap, subst, ◌∙◌, arith}
use Rattle.std.proofs.lemmas.Bool.Decides.{nat_tests}
use Rattle.pio_encode.specs.declared.op.Op.{Op}
use Rattle.pio_encode.specs.Word.{reading_of}
use Rattle.pin_matrix.specs.declared.machine.MachineSetup.{MachineSetup}
use Rattle.pin_matrix.specs.declared.setup.Setup.{Setup}
use Rattle.pin_matrix.specs.declared.span.Span.{Span}
use Rattle.sm_registers.specs.declared.intent.Intent.{Intent}
use Rattle.sm_registers.specs.Intents.{two_writes}
use Rattle.sm_registers.specs.declared.registers.Registers.{Registers}
use Rattle.sm_registers.specs.View.{View}
use Rattle.sm_registers.specs.Queues.{Queues}
use Rattle.sm_registers.specs.Effects.{Effect, effect_of}
use Rattle.sm_registers.specs.Tick.{tick_of, tick_delay, tick_word, tick_by, after_effect, refilled, osr_filled_from, side_writes, current_word, word_at, pc_after, delay_after}
use Rattle.span_step.specs.Contexts.{Context}
use Rattle.span_step.specs.Outcomes.{ContextOutcome, level_at, outcomes, may_stall}
use Rattle.span_step.specs.Courses.{over}
use Rattle.span_step.specs.Steps.{address_after, next_address, side_of}
use Rattle.span_ticks.specs.Following.{level_after}
use Rattle.span_check.specs.Marks.{counts}
use Rattle.span_refuted.specs.OneWay.{is_settled, instruction_at, IsSimple}
use Rattle.span_refuted.proofs.Finished.{Explains, explained, level_none}

-- at an instruction, or in the delay before it, with nothing pending
pub record IsRest (r : Registers) (address ticks : ℕ) : Type 0 where
  pub pc : r.pc ≡ address
  pub left : r.delay ≡ ticks
  pub pending : r.pending ≡ None
  pub begun : r.begun ≡ false

-- a tick that counts, after which the machine is there and has written these levels
pub record IsTick (sp : Span) (first second : Option Bool) (address ticks : ℕ) (t : Registers × Intent) : Type 0 where
  pub rest : IsRest t.0 address ticks
  pub counting : (named : Bool) → counts t.1.kind named ≡ true
  pub from : (old : Bool) → level_after sp.from_pin (two_writes t.1.level) old ≡ unwrap_or first old
  pub to : (old : Bool) → level_after sp.to_pin (two_writes t.1.level) old ≡ unwrap_or second old

rest_filled : (front : Option ℕ) (r : Registers) (pc delay : ℕ) → IsRest r pc delay → IsRest (osr_filled_from front r) pc delay
rest_filled None r pc delay h = h
rest_filled (Some word) r pc delay h = record { pc = h.pc; left = h.left; pending = h.pending; begun = h.begun }

rest_refilled : (s : MachineSetup) (q : Queues) (r : Registers) (pc delay : ℕ) → IsRest r pc delay → IsRest (refilled s q r) pc delay
rest_refilled s q r pc delay h = on _ where
  on : (b : Bool) → IsRest (cond b (osr_filled_from q.front r) r) pc delay
  on true = rest_filled q.front r pc delay h
  on false = h

both_writes : (a b : Option Bool) (old : Bool) → unwrap_or b (unwrap_or a old) ≡ unwrap_or (over b a) old
both_writes a None old = refl
both_writes a (Some l) old = refl

pub no_levels : (p : ℕ) (old : Bool) → level_after p ((0, 0) ∷ (0, 0) ∷ []) old ≡ old
no_levels p old = rw (level_none p) refl

side_from : (s : MachineSetup) (sp : Span) (side : Option ℕ) → IsSimple sp → level_at sp.from_pin (cond s.side_rule.pindirs (0, 0) (side_writes side false s)) ≡ (side_of s sp side).from
side_from s sp side simple = on s.side_rule.pindirs refl side where
  on : (b : Bool) → s.side_rule.pindirs ≡ b → (side : Option ℕ) → level_at sp.from_pin (cond s.side_rule.pindirs (0, 0) (side_writes side false s)) ≡ (side_of s sp side).from
  on true e None = rw e (level_none sp.from_pin)
  on false e None = rw e (level_none sp.from_pin)
  on true e (Some value) = rw (e, simple.from) (level_none sp.from_pin)
  on false e (Some value) = rw (e, simple.from) refl

side_to : (s : MachineSetup) (sp : Span) (side : Option ℕ) → IsSimple sp → level_at sp.to_pin (cond s.side_rule.pindirs (0, 0) (side_writes side false s)) ≡ (side_of s sp side).to
side_to s sp side simple = on s.side_rule.pindirs refl side where
  on : (b : Bool) → s.side_rule.pindirs ≡ b → (side : Option ℕ) → level_at sp.to_pin (cond s.side_rule.pindirs (0, 0) (side_writes side false s)) ≡ (side_of s sp side).to
  on true e None = rw e (level_none sp.to_pin)
  on false e None = rw e (level_none sp.to_pin)
  on true e (Some value) = rw (e, simple.to) (level_none sp.to_pin)
  on false e (Some value) = rw (e, simple.to) refl

-- the registers after an instruction that finished
rest_after : (op : Op) (s : MachineSetup) (sp : Span) (r : Registers) (o : ContextOutcome) (e : Effect) → r.pending ≡ None → Explains sp o e
    → IsRest (after_effect op.delay s r e) (address_after o.jump (next_address s r.pc)) op.delay
unfolding after_effect
rest_after op s sp r o e none x = rw x.stalled (record {
  pc = ap (λ j. pc_after j (is_some r.pending) s r) x.jump ∙ (ap (λ (z : Option ℕ). pc_after o.jump (is_some z) s r) none ∙ goes o.jump);
  left = ap (λ z. delay_after z op.delay) x.pending;
  pending = x.pending;
  begun = refl;
}) where
  goes : (jump : Option ℕ) → pc_after jump false s r ≡ address_after jump (next_address s r.pc)
  goes None = refl
  goes (Some address) = refl

-- a tick of an instruction with one way
tick_finished : (op : Op) (s : MachineSetup) (sp : Span) (q : Queues) (r : Registers) (o : ContextOutcome) (e : Effect) → IsSimple sp → r.pending ≡ None → r.begun ≡ false → Explains sp o e
    → IsTick sp (over (side_of s sp op.side).from o.from) (over (side_of s sp op.side).to o.to) (address_after o.jump (next_address s r.pc)) op.delay (tick_by op s q r e)
unfolding tick_by
tick_finished op s sp q r o e simple none begun x = record {
  rest = rest_refilled s q _ _ _ (rest_after op s sp r o e none x);
  counting = λ named. rw begun refl;
  from = λ old. rw begun (both_writes (level_at sp.from_pin e.level) (level_at sp.from_pin (cond s.side_rule.pindirs (0, 0) (side_writes op.side false s))) old ∙ same_over _ _ _ _ old (side_from s sp op.side simple) x.from);
  to = λ old. rw begun (both_writes (level_at sp.to_pin e.level) (level_at sp.to_pin (cond s.side_rule.pindirs (0, 0) (side_writes op.side false s))) old ∙ same_over _ _ _ _ old (side_to s sp op.side simple) x.to);
} where
  same_over : (a b c d : Option Bool) (old : Bool) → a ≡ b → c ≡ d → unwrap_or (over a c) old ≡ unwrap_or (over b d) old
  same_over a b c d old e f = rw (e, f) refl

pub first_tick : (u : Setup) (s : MachineSetup) (sp : Span) (k : Context) (v : View) (q : Queues) (r : Registers) (pc : ℕ) (o : ContextOutcome) → IsSimple sp → v.memory ≡ u.memory → IsRest r pc 0
    → is_settled (instruction_at u s pc).act ≡ true → may_stall (instruction_at u s pc).act s ≡ false → outcomes (instruction_at u s pc).act s sp k ≡ o ∷ []
    → IsTick sp (over (side_of s sp (instruction_at u s pc).side).from o.from) (over (side_of s sp (instruction_at u s pc).side).to o.to) (address_after o.jump (next_address s pc)) (instruction_at u s pc).delay (tick_of s v q r)
unfolding tick_of tick_word
first_tick u s sp k v q r pc o simple memory h settled quick only =
    subst (λ b. Ticks (cond b (tick_delay s q r) (tick_word (reading_of (current_word v r) s.side_rule) s v q r))) (sym test)
    (subst (λ op. Ticks (tick_word op s v q r)) (sym same) tick) where
      Ticks : Registers × Intent → Type 0
      Ticks t = IsTick sp (over (side_of s sp (instruction_at u s pc).side).from o.from) (over (side_of s sp (instruction_at u s pc).side).to o.to) (address_after o.jump (next_address s pc)) (instruction_at u s pc).delay t

      test : nat_lt 0 r.delay ≡ false
      test = rw h.left refl

      same : reading_of (word_at r.pending v r.pc) s.side_rule ≡ instruction_at u s pc
      same = ap (λ (z : Option ℕ). reading_of (word_at z v r.pc) s.side_rule) h.pending ∙ (ap (λ (m : List ℕ). reading_of (slice_index m r.pc) s.side_rule) memory ∙ ap (λ (a : ℕ). reading_of (slice_index u.memory a) s.side_rule) h.pc)

      tick : Ticks (tick_word (instruction_at u s pc) s v q r)
      tick = subst (λ a. IsTick sp (over (side_of s sp (instruction_at u s pc).side).from o.from) (over (side_of s sp (instruction_at u s pc).side).to o.to) (address_after o.jump (next_address s a)) (instruction_at u s pc).delay (tick_word (instruction_at u s pc) s v q r)) h.pc
          (tick_finished (instruction_at u s pc) s sp q r o (effect_of (instruction_at u s pc).act s v q r) simple h.pending h.begun (explained (instruction_at u s pc).act s sp k v q r o simple settled quick only))

pub delay_tick : (s : MachineSetup) (sp : Span) (v : View) (q : Queues) (r : Registers) (pc d : ℕ) → IsRest r pc (suc d) → IsTick sp None None pc d (tick_of s v q r)
unfolding tick_of tick_delay
delay_tick s sp v q r pc d h = subst (λ b. IsTick sp None None pc d (cond b (tick_delay s q r) (tick_word (reading_of (current_word v r) s.side_rule) s v q r))) (sym test) tick where
  positive : nat_lt 0 (suc d) ≡ true
  positive = grind (arith, nat_tests)

  test : nat_lt 0 r.delay ≡ true
  test = ap (nat_lt 0) h.left ∙ positive

  tick : IsTick sp None None pc d (tick_delay s q r)
  tick = record {
    rest = rest_refilled s q _ _ _ (record { pc = h.pc; left = ap (λ n. n - 1) h.left ∙ (let e : suc d - 1 ≡ d = omega arith in e); pending = h.pending; begun = h.begun });
    counting = λ named. refl;
    from = no_levels sp.from_pin;
    to = no_levels sp.to_pin;
  }
