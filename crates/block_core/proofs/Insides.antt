-- What is inside a block: over a leap, by the history of its pads, and whether a machine waits.
use Rattle.std.proofs.Common.{◌≡◌, ℕ, suc, ◌-◌, Bool, true, false, ◌&&◌, Option, Some, None, option_map, List, [], ◌∷◌, map, cond, nat_lt, nat_le, refl, ◌∙◌}
use Rattle.pio_encode.specs.declared.op.Op.{Op}
use Rattle.pio_encode.specs.Word.{reading_of}
use Rattle.pin_matrix.specs.declared.machine.MachineSetup.{MachineSetup}
use Rattle.pin_matrix.specs.declared.setup.Setup.{Setup}
use Rattle.sm_registers.specs.declared.intent.Intent.{Intent}
use Rattle.sm_registers.specs.declared.intent.Kind.TheVariants.{First, Late}
use Rattle.sm_registers.specs.declared.registers.Registers.{Registers}
use Rattle.sm_registers.specs.Effects.{Effect, effect_of}
use Rattle.sm_registers.specs.Intents.{no_intent}
use Rattle.sm_registers.specs.Queues.{Queues}
use Rattle.sm_registers.specs.State.{queues_of}
use Rattle.sm_registers.specs.Tick.{after_effect, current_word, osr_filled_from, refilled, tick_by, tick_delay, tick_of, tick_word}
use Rattle.sm_registers.specs.View.{View}
use Rattle.dreq_pacing.specs.declared.due.Due.{Due}
use Rattle.block_core.specs.Block.{Run, next, run_at, run_from}
use Rattle.block_core.specs.History.{pad_at}
use Rattle.block_core.specs.Inside.{inside_of, is_of_an_instruction, machine_inside}
use Rattle.block_core.specs.Leaps.{leapt, leapt_place}
use Rattle.block_core.specs.Slots.{Slot, acted, has_tick, lined, settled_slot, slot_after, slot_intent}
use Rattle.block_core.proofs.NextStirs.{sample_leaps}

-- no delay's count is seen
place_leaps : (memory : List ℕ) (n : ℕ) (place : Option Slot) → option_map (machine_inside memory) (leapt_place n place) ≡ option_map (machine_inside memory) place
unfolding machine_inside
place_leaps memory n None = refl
place_leaps memory n (Some s) = refl

places_leap : (memory : List ℕ) (n : ℕ) (places : List (Option Slot)) → map (option_map (machine_inside memory)) (map (leapt_place n) places) ≡ map (option_map (machine_inside memory)) places
places_leap memory n [] = refl
places_leap memory n (place ∷ places) = rw (place_leaps memory n place, places_leap memory n places) refl

pub inside_leaps : (r : Run) (n : ℕ) → inside_of (leapt n r) ≡ inside_of r
unfolding inside_of leapt
inside_leaps r n = rw (sample_leaps r n, places_leap r.memory n r.state.machines) refl

pub pads_inside : (s : Setup) (host : ℕ → Due) (clock : ℕ) → (inside_of (run_at s host (suc clock))).pads ≡ pad_at s host clock
unfolding inside_of run_from next
pads_inside s host clock = refl

-- autopull leaves what a word from TX leaves
pub refilled_keeps : {T : Type 0} (of : Registers → T) → ((word : ℕ) (r : Registers) → of (osr_filled_from (Some word) r) ≡ of r) → (s : MachineSetup) (q : Queues) (r : Registers) → of (refilled s q r) ≡ of r
refilled_keeps of keeps s q r =
    elim (s.autopull && nat_le s.pull_threshold r.out_count) as (λ b. of (cond b (osr_filled_from q.front r) r) ≡ of r) [
      | true ↦ elim q.front as (λ front. of (osr_filled_from front r) ≡ of r) [ None ↦ refl | Some word ↦ keeps word r ]
      | false ↦ refl
    ]

refilled_begun : (s : MachineSetup) (q : Queues) (r : Registers) → (refilled s q r).begun ≡ r.begun
refilled_begun = refilled_keeps (λ r. r.begun) (λ word r. refl)

-- an instruction that stalls has begun, and one that finishes has not
effect_begun : (delay : ℕ) (s : MachineSetup) (r : Registers) (e : Effect) → (after_effect delay s r e).begun ≡ e.stalled
unfolding after_effect
effect_begun delay s r e = cases e.stalled refl where
  cases : (b : Bool) → e.stalled ≡ b → (after_effect delay s r e).begun ≡ e.stalled
  cases true h = rw h refl
  cases false h = rw h refl

-- whether it waits after a tick that does this
abbrev waits_by : Intent → (before : Bool) → Bool
waits_by i before = cond (is_of_an_instruction i.kind) i.stalled before

word_begun : (op : Op) (s : MachineSetup) (q : Queues) (r : Registers) (e : Effect) → (tick_by op s q r e).0.begun ≡ waits_by (tick_by op s q r e).1 r.begun
unfolding tick_by
word_begun op s q r e =
    elim r.begun as (λ b. (refilled s q (after_effect op.delay s r e)).begun ≡ cond (is_of_an_instruction (cond b Late First)) e.stalled r.begun) [
      | true ↦ refilled_begun s q (after_effect op.delay s r e) ∙ effect_begun op.delay s r e
      | false ↦ refilled_begun s q (after_effect op.delay s r e) ∙ effect_begun op.delay s r e
    ]

delay_begun : (s : MachineSetup) (q : Queues) (r : Registers) → (tick_delay s q r).0.begun ≡ waits_by (tick_delay s q r).1 r.begun
unfolding tick_delay
delay_begun s q r = refilled_begun s q (record r { delay = r.delay - 1 })

tick_begun : (s : MachineSetup) (v : View) (q : Queues) (r : Registers) → (tick_of s v q r).0.begun ≡ waits_by (tick_of s v q r).1 r.begun
unfolding tick_of tick_word
tick_begun s v q r =
    let op = reading_of (current_word v r) s.side_rule in
    elim (nat_lt 0 r.delay) as (λ b. (cond b (tick_delay s q r) (tick_word op s v q r)).0.begun ≡ waits_by (cond b (tick_delay s q r) (tick_word op s v q r)).1 r.begun) [
      | true ↦ delay_begun s q r
      | false ↦ word_begun op s q r (effect_of op.act s v q r)
    ]

acted_begun : (v : View) (s : Slot) → (acted v s).0.begun ≡ waits_by (acted v s).1 s.machine.registers.begun
unfolding acted
acted_begun v s =
    let m = s.machine in
    let tick = tick_of m.setup v (queues_of m.ports.fifos) m.registers in
    elim (has_tick s) as (λ b. (cond b tick (m.registers, no_intent)).0.begun ≡ waits_by (cond b tick (m.registers, no_intent)).1 m.registers.begun) [
      | true ↦ tick_begun m.setup v (queues_of m.ports.fifos) m.registers
      | false ↦ refl
    ]

pub waits_after : (memory : List ℕ) (v : View) (d : Due) (s : Slot) → (machine_inside memory (slot_after v d s)).waits ≡ waits_by (slot_intent v d s) (machine_inside memory s).waits
unfolding machine_inside settled_slot
waits_after memory v d s = acted_begun v (lined d s)
