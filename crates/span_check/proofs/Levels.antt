-- A pin's level where nothing is written, edges, and what the intent of a tick looks like.
use Rattle.std.proofs.Common.{◌≡◌, ℕ, Bool, true, false, cond, Option, Some, None, List, [], ◌∷◌, nat_lt, refl}
use Rattle.std.specs.Int.{bit_at}
use Rattle.std.proofs.lemmas.Nat.Bits.{bit_at-zero}
use Rattle.pin_matrix.specs.Pins.{last_of}
use Rattle.pin_matrix.specs.declared.machine.MachineSetup.{MachineSetup}
use Rattle.pin_matrix.specs.declared.span.PinSignal.{PinSignal}
use Rattle.pin_matrix.specs.declared.span.PinSignal.TheVariants.{Level, Direction}
use Rattle.sm_registers.specs.declared.intent.Kind.{Kind}
use Rattle.sm_registers.specs.declared.intent.Kind.TheVariants.{First, Late, Delay}
use Rattle.sm_registers.specs.Intents.{no_intent, two_writes}
use Rattle.sm_registers.specs.declared.registers.Registers.{Registers}
use Rattle.sm_registers.specs.View.{View}
use Rattle.sm_registers.specs.Effects.{effect_of}
use Rattle.sm_registers.specs.Queues.{Queues}
use Rattle.pio_encode.specs.declared.op.Op.{Op}
use Rattle.pio_encode.specs.Word.{reading_of}
use Rattle.sm_registers.specs.Tick.{tick_of, tick_delay, tick_word, tick_by, current_word, side_writes}
use Rattle.span_step.specs.Courses.{is_edge}
use Rattle.span_step.specs.Steps.{is_event}
use Rattle.span_ticks.specs.Following.{writes_to, level_after}
use Rattle.block_core.specs.Edges.{changes}

-- nothing is written
pub level-none : (signal : Option PinSignal) (p : ℕ) (level : Bool) → level_after p (two_writes (writes_to signal no_intent)) level ≡ level
level-none None p level = rw (bit_at-zero p) refl
level-none (Some Level) p level = rw (bit_at-zero p) refl
level-none (Some Direction) p level = rw (bit_at-zero p) refl

pub changes-is_edge : (rise a b : Bool) → changes rise a b ≡ is_edge rise a b
changes-is_edge true a b = refl
changes-is_edge false a b = refl

-- a level that stays makes no edge
pub no-edge : (rise a : Bool) → is_edge rise a a ≡ false
no-edge true true = refl
no-edge true false = refl
no-edge false true = refl
no-edge false false = refl

-- where no edge is and nothing finishes no event comes
pub no-event : (watched : Option PinSignal) (at : List ℕ) (address : ℕ) (edge works finishes : Bool) → edge ≡ false → finishes ≡ false → is_event watched at address edge works finishes ≡ false
no-event (Some signal) at address edge works finishes e f = rw e refl
no-event None at address edge works finishes e f = rw f refl

-- where no signal is watched nothing is
pub bit-none : (p : ℕ) → bit_at 0 p ≡ last_of p (bit_at 0 p) (two_writes [])
unfolding last_of
bit-none p = rw (bit_at-zero p) refl

-- a fact of the intent of a tick: it is no clock without a tick, and has two writes to levels and two to directions
pub of-tick : (signal : PinSignal) (P : Kind → List (ℕ × ℕ) → Type 0) → ((w x : ℕ × ℕ) → P Delay (w ∷ x ∷ [])) → ((w x : ℕ × ℕ) → P First (w ∷ x ∷ [])) → ((w x : ℕ × ℕ) → P Late (w ∷ x ∷ [])) → (s : MachineSetup) (v : View) (q : Queues) (r : Registers) → P (tick_of s v q r).1.kind (writes_to (Some signal) (tick_of s v q r).1)
unfolding tick_of tick_delay tick_word tick_by
of-tick Level P delay first late s v q r =
    let op : Op = reading_of (current_word v r) s.side_rule in
    elim (nat_lt 0 r.delay) as (λ b. let t = cond b (tick_delay s q r) (tick_word op s v q r) in P t.1.kind t.1.level) [
      | true ↦ delay (0, 0) (0, 0)
      | false ↦
          elim (r.begun) as (λ b. P (cond b Late First) ((effect_of op.act s v q r).level ∷ cond s.side_rule.pindirs (0, 0) (side_writes op.side r.begun s) ∷ [])) [
            | true ↦ late _ _
            | false ↦ first _ _
          ]
    ]
of-tick Direction P delay first late s v q r =
    let op : Op = reading_of (current_word v r) s.side_rule in
    elim (nat_lt 0 r.delay) as (λ b. let t = cond b (tick_delay s q r) (tick_word op s v q r) in P t.1.kind t.1.direction) [
      | true ↦ delay (0, 0) (0, 0)
      | false ↦
          elim (r.begun) as (λ b. P (cond b Late First) ((effect_of op.act s v q r).direction ∷ cond s.side_rule.pindirs (side_writes op.side r.begun s) (0, 0) ∷ [])) [
            | true ↦ late _ _
            | false ↦ first _ _
          ]
    ]
