-- A machine clock by clock, in the run of a setup with a stimulus that leaves its ticks alone: what its place holds, and what a
-- clock with a tick and one without do.
--   Laws             what the laws of the crates below say, as one premise
use Rattle.std.proofs.Common.{◌≡◌, ℕ, zero, suc, ◌<◌, Bool, true, false, ◌&&◌, cond, Option, Some, None, option_map, option_to_list, List, [], ◌∷◌, ◌++◌, slice_get, slice_index_or, refl, sym, ap, ◌∙◌, add-one, append-nil, append_assoc}
use Rattle.std.specs.Int.{bit_at}
use Rattle.std.proofs.lemmas.Nat.Bits.{bit_at-zero}
use Rattle.clock_divider.specs.Timing.{Timing, period_of}
use Rattle.clock_divider.specs.Timing as timing
use Rattle.clock_divider.specs.Ticks.{is_tick}
use Rattle.fifo_pair.specs.Fifos.{queued, less_front, if_room, settled}
use Rattle.pin_matrix.specs.Pads.{seen_of}
use Rattle.pin_matrix.specs.Pins.{last_of}
use Rattle.pin_matrix.specs.declared.machine.MachineSetup.{MachineSetup}
use Rattle.pin_matrix.specs.declared.setup.Setup.{Setup}
use Rattle.pin_matrix.specs.declared.span.PinSignal.TheVariants.{Level}
use Rattle.sm_registers.specs.declared.intent.Intent.{Intent}
use Rattle.sm_registers.specs.Intents.{no_intent, two_writes}
use Rattle.sm_registers.specs.declared.registers.Registers.{Registers}
use Rattle.sm_registers.specs.View.{View}
use Rattle.sm_registers.specs.State.{queues_of, settled_ports}
use Rattle.sm_registers.specs.Tick.{tick_of}
use Rattle.dreq_pacing.specs.declared.due.Due.{Due}
use Rattle.dreq_pacing.specs.declared.line.Line.{Line}
use Rattle.block_core.specs.Slots.{Slot, first_slot, lined, has_tick, acted, settled_slot, slot_after, place_after, place_intent}
use Rattle.block_core.specs.Block.{BlockState, first_run, first_state, first_place, view_of}
use Rattle.block_core.specs.Following.{Follows, place_at, intent_in, OthersLeave}
use Rattle.block_core.specs.History.{pad_at, pad_before}
use Rattle.block_core.specs.Hosted.{hosted_at, host_of}
use Rattle.program_runs.specs.Accepted.{accepted_in, accepted}
use Rattle.program_runs.specs.Clocks.{IsOwn, host_in, state_in, view_in, slots, act_in, regs_in, tx_in, level_in, taken_in}
use Rattle.program_runs.specs.Steady.{IsLeft}
use Rattle.program_runs.specs.Steps.{IsStep, takes}
use Rattle.program_runs.proofs.Pacing.{AreTested}
use Rattle.program_runs.proofs.Taking.{takes-more}

-- what the laws of block_core and clock_divider say
pub record Laws : Type 0 where
  -- the run with a stimulus is one in which the machines see the block's own pads
  pub follows : (u : Setup) (lines : List Line) → Follows u.memory (λ c. seen_of u.bypass (pad_at u (host_of (first_run u) lines) c) (pad_before u (host_of (first_run u) lines) c))
      (host_of (first_run u) lines) (λ c. (hosted_at (first_run u) lines c).run.state)
  -- each place goes its own way
  pub places_start : (u : Setup) (id : ℕ) → id < 4 → place_at (first_state u) id ≡ first_place u id
  pub places_go_on : (memory : List ℕ) (seen : ℕ → ℕ) (host : ℕ → Due) (states : ℕ → BlockState) → Follows memory seen host states
      → (clock id : ℕ) → place_at (states (suc clock)) id ≡ place_after (view_of memory (seen clock) (states clock)) (host clock) (place_at (states clock) id)
  -- a pin of one machine has what it writes
  pub own_pins : (u : Setup) (memory : List ℕ) (seen : ℕ → ℕ) (host : ℕ → Due) (states : ℕ → BlockState) → states 0 ≡ first_state u
      → Follows memory seen host states → (id pin : ℕ) → pin < 32 → OthersLeave Level id pin u.machines → (clock : ℕ)
      → bit_at (states (suc clock)).levels pin
      ≡ last_of pin (bit_at (states clock).levels pin) (two_writes (intent_in memory (seen clock) (host clock) (states clock) id).level)
  -- what the test for a tick means
  pub tick_test : AreTested

-- the front of a FIFO, where it is taken, and what is left
front_and_rest : (take : Bool) (tx : List ℕ) → option_to_list (cond take (slice_get tx 0) None) ++ less_front take tx ≡ tx
front_and_rest true [] = refl
front_and_rest true (word ∷ tx) = refl
front_and_rest false tx = refl

queued_after : (word : Option ℕ) (tx : List ℕ) → queued word tx ≡ tx ++ option_to_list word
queued_after None tx = sym (append-nil tx)
queued_after (Some word) tx = refl

kept_enabled : (enable disable enabled : Bool) → enable ≡ false → disable ≡ false → enabled ≡ true → cond enable true (cond disable false enabled) ≡ true
kept_enabled enable disable enabled h k e = rw (h, k) e

kept_timing : (restart : Bool) (t : Timing) → restart ≡ false → cond restart (timing.resumed t) t ≡ t
kept_timing restart t h = rw h refl

on_clock : (clock period : ℕ) → timing.stepped (record { clock = clock; restarted = 0; period = period }) ≡ record { clock = suc clock; restarted = 0; period = period }
on_clock clock period = ap (λ (k : ℕ). let x : Timing = record { clock = k; restarted = 0; period = period } in x) (add-one clock)

unwritten : (pin old : ℕ) → last_of pin old (two_writes no_intent.level) ≡ old
unfolding last_of
unwritten pin old = rw (bit_at-zero pin) refl

regroup : (a b c d : List ℕ) → (a ++ (b ++ c)) ++ d ≡ (a ++ b) ++ (c ++ d)
regroup a b c d = simp append_assoc

-- it has its setup, is enabled, and its divider runs from clock 0 on
record IsTimed (s : MachineSetup) (c : ℕ) (m : Slot) : Type 0 where
  setup : m.machine.setup ≡ s
  enabled : m.enabled ≡ true
  running : m.timing ≡ record { clock = c; restarted = 0; period = period_of s.int s.frac }

timed_after : (s : MachineSetup) (c : ℕ) (v : View) (d : Due) (m : Slot) → IsLeft d s.id → IsTimed s c m → IsTimed s (suc c) (slot_after v d m)
unfolding settled_slot
timed_after s c v d m left t = record {
  setup = t.setup;
  enabled = kept_enabled _ _ m.enabled (ap (λ i. slice_index_or d.enable i false) own ∙ left.enable) (ap (λ i. slice_index_or d.disable i false) own ∙ left.disable) t.enabled;
  running = ap timing.stepped (kept_timing _ m.timing (ap (λ i. slice_index_or d.restart i false) own ∙ left.restart) ∙ t.running) ∙ on_clock c (period_of s.int s.frac);
} where
  own : m.machine.setup.id ≡ s.id
  own = ap (λ (x : MachineSetup). x.id) t.setup

-- what it does in a clock: a tick, or nothing
acts : (s : MachineSetup) (c : ℕ) (v : View) (d : Due) (m : Slot) → IsLeft d s.id → IsTimed s c m
    → acted v (lined d m) ≡ cond (is_tick 0 (period_of s.int s.frac) c) (tick_of s v (queues_of m.machine.ports.fifos) m.machine.registers) (m.machine.registers, no_intent)
unfolding acted
acts s c v d m left t =
    ap (λ b. cond b (tick_of m.machine.setup v (queues_of m.machine.ports.fifos) m.machine.registers) (m.machine.registers, no_intent)) ticks
    ∙ ap (λ x. cond (is_tick 0 (period_of s.int s.frac) c) (tick_of x v (queues_of m.machine.ports.fifos) m.machine.registers) (m.machine.registers, no_intent)) t.setup where
      own : m.machine.setup.id ≡ s.id
      own = ap (λ (x : MachineSetup). x.id) t.setup

      ticks : has_tick (lined d m) ≡ is_tick 0 (period_of s.int s.frac) c
      ticks =
          ap (λ e. e && is_tick (lined d m).timing.restarted (lined d m).timing.period (lined d m).timing.clock) (kept_enabled _ _ m.enabled (ap (λ i. slice_index_or d.enable i false) own ∙ left.enable) (ap (λ i. slice_index_or d.disable i false) own ∙ left.disable) t.enabled)
          ∙ ap (λ (x : Timing). is_tick x.restarted x.period x.clock) (kept_timing _ m.timing (ap (λ i. slice_index_or d.restart i false) own ∙ left.restart) ∙ t.running)

-- its registers and its words after a clock
regs_after : (v : View) (d : Due) (m : Slot) → (slot_after v d m).machine.registers ≡ (acted v (lined d m)).0
unfolding settled_slot
regs_after v d m = refl

pub tx_after_clock : (v : View) (d : Due) (m : Slot) → (slot_after v d m).machine.ports.fifos.tx
    ≡ queued (if_room m.machine.ports.fifos.tx_room m.machine.ports.fifos.tx (slice_index_or d.word m.machine.setup.id None)) (less_front (acted v (lined d m)).1.take m.machine.ports.fifos.tx)
unfolding settled_slot settled_ports settled
tx_after_clock v d m = refl

pub begins : (u : Setup) (lines : List Line) → state_in u lines 0 ≡ first_state u
unfolding hosted_at
begins u lines = refl

module _ (laws : Laws) (u : Setup) (lines : List Line) (id : ℕ) (s : MachineSetup) (pin : ℕ) (own : IsOwn u id s pin) (left : (clock : ℕ) → IsLeft (host_in u lines clock) s.id) where
  timed : (c : ℕ) → IsTimed s c (slots u lines s c)
  timed zero = record { setup = refl; enabled = refl; running = refl }
  timed (suc c) = timed_after s c (view_in u lines c) (host_in u lines c) (slots u lines s c) (left c) (timed c)

  pub place_is : (c : ℕ) → place_at (state_in u lines c) id ≡ Some (slots u lines s c)
  place_is zero = ap (λ (b : BlockState). place_at b id) (begins u lines) ∙ laws.places_start u id own.in_block ∙ ap (option_map first_slot) own.configured
  place_is (suc c) =
      laws.places_go_on u.memory _ (host_in u lines) (state_in u lines) (laws.follows u lines) c id
      ∙ ap (place_after (view_in u lines c) (host_in u lines c)) (place_is c)

  pub setup_is : (c : ℕ) → (slots u lines s c).machine.setup ≡ s
  setup_is c = (timed c).setup

  acts_in : (c : ℕ) → act_in u lines s c ≡ cond (is_tick 0 (period_of s.int s.frac) c) (tick_of s (view_in u lines c) (queues_of (slots u lines s c).machine.ports.fifos) (regs_in u lines s c)) (regs_in u lines s c, no_intent)
  acts_in c = acts s c (view_in u lines c) (host_in u lines c) (slots u lines s c) (left c) (timed c)

  level_after : (c : ℕ) → level_in u lines pin (suc c) ≡ last_of pin (level_in u lines pin c) (two_writes (act_in u lines s c).1.level)
  level_after c =
      laws.own_pins u u.memory _ (host_in u lines) (state_in u lines) (begins u lines) (laws.follows u lines) id pin own.is_pin own.alone c
      ∙ ap (λ p. last_of pin (level_in u lines pin c) (two_writes (place_intent (view_in u lines c) (host_in u lines c) p).level)) (place_is c)

  -- a clock without a tick
  pub idle_regs : (c : ℕ) → is_tick 0 (period_of s.int s.frac) c ≡ false → regs_in u lines s (suc c) ≡ regs_in u lines s c
  idle_regs c h = regs_after (view_in u lines c) (host_in u lines c) (slots u lines s c) ∙ ap (λ (x : Registers × Intent). x.0) (acts_in c ∙ ap (λ b. cond b (tick_of s (view_in u lines c) (queues_of (slots u lines s c).machine.ports.fifos) (regs_in u lines s c)) (regs_in u lines s c, no_intent)) h)

  pub idle_level : (c : ℕ) → is_tick 0 (period_of s.int s.frac) c ≡ false → level_in u lines pin (suc c) ≡ level_in u lines pin c
  idle_level c h =
      level_after c
      ∙ ap (λ (x : Registers × Intent). last_of pin (level_in u lines pin c) (two_writes x.1.level)) (acts_in c ∙ ap (λ b. cond b (tick_of s (view_in u lines c) (queues_of (slots u lines s c).machine.ports.fifos) (regs_in u lines s c)) (regs_in u lines s c, no_intent)) h)
      ∙ unwritten pin (level_in u lines pin c)

  pub idle_taken : (c : ℕ) → is_tick 0 (period_of s.int s.frac) c ≡ false → taken_in u lines s c ≡ None
  idle_taken c h = ap (λ (x : Registers × Intent). cond x.1.take (slice_get (tx_in u lines s c) 0) None) (acts_in c ∙ ap (λ b. cond b (tick_of s (view_in u lines c) (queues_of (slots u lines s c).machine.ports.fifos) (regs_in u lines s c)) (regs_in u lines s c, no_intent)) h)

  -- one with a tick
  pub tick_fed : (c : ℕ) → is_tick 0 (period_of s.int s.frac) c ≡ true
      → (k : IsStep s u.memory pin (regs_in u lines s c) (level_in u lines pin c) (regs_in u lines s (suc c)) (level_in u lines pin (suc c)) (taken_in u lines s c)) × (k.queues.front ≡ slice_get (tx_in u lines s c) 0)
  tick_fed c h = (
    record {
      view = view_in u lines c;
      queues = queues_of (slots u lines s c).machine.ports.fifos;
      memory_is = refl;
      registers = regs_after (view_in u lines c) (host_in u lines c) (slots u lines s c) ∙ ap (λ (x : Registers × Intent). x.0) act;
      level_is = level_after c ∙ ap (λ (x : Registers × Intent). last_of pin (level_in u lines pin c) (two_writes x.1.level)) act;
      taken_is = ap (λ (x : Registers × Intent). cond x.1.take (slice_get (tx_in u lines s c) 0) None) act;
    },
    refl,
  ) where
    act : act_in u lines s c ≡ tick_of s (view_in u lines c) (queues_of (slots u lines s c).machine.ports.fifos) (regs_in u lines s c)
    act = acts_in c ∙ ap (λ b. cond b (tick_of s (view_in u lines c) (queues_of (slots u lines s c).machine.ports.fifos) (regs_in u lines s c)) (regs_in u lines s c, no_intent)) h

  -- the words that TX accepted are those that the machine took, and then those that wait
  pub accepted_words : (n : ℕ) → accepted (first_run u) lines id n ≡ takes (taken_in u lines s) 0 n ++ tx_in u lines s n
  unfolding accepted
  accepted_words zero = refl
  accepted_words (suc n) =
      let m = slots u lines s n in
      let d = host_in u lines n in
      let word : Option ℕ = if_room m.machine.ports.fifos.tx_room m.machine.ports.fifos.tx (slice_index_or d.word m.machine.setup.id None) in
      let front : List ℕ = option_to_list (taken_in u lines s n) in
      let rest : List ℕ = less_front (act_in u lines s n).1.take (tx_in u lines s n) in
      ap (λ ws. ws ++ option_to_list (accepted_in d (place_at (state_in u lines n) id))) (accepted_words n)
      ∙ ap (λ p. (takes (taken_in u lines s) 0 n ++ tx_in u lines s n) ++ option_to_list (accepted_in d p)) (place_is n)
      ∙ ap (λ ws. (takes (taken_in u lines s) 0 n ++ ws) ++ option_to_list word) (sym (front_and_rest (act_in u lines s n).1.take (tx_in u lines s n)))
      ∙ regroup (takes (taken_in u lines s) 0 n) front rest (option_to_list word)
      ∙ ap (λ ws. ws ++ (rest ++ option_to_list word)) (sym (takes-more (taken_in u lines s) n))
      ∙ ap (λ ws. takes (taken_in u lines s) 0 (suc n) ++ ws) (sym (tx_after_clock (view_in u lines n) d m ∙ queued_after word rest))
