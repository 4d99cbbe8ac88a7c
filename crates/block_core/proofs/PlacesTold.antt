-- That the flags of a stall are up, of each place, clock after clock.
use Rattle.std.proofs.Common.{◌≡◌, ℕ, ◌+◌, true, false, Option, Some, None, option_map, List, [], ◌∷◌, map, cond, slice_index_or, bit_or, refl, ap, sym, subst}
use Rattle.fifo_pair.specs.Fifos.{Fifos, is_over, is_under}
use Rattle.pio_encode.specs.Word.{act_of}
use Rattle.pin_matrix.specs.declared.machine.MachineSetup.{MachineSetup}
use Rattle.sm_registers.specs.declared.registers.Registers.{Registers}
use Rattle.sm_registers.specs.View.{View}
use Rattle.sm_registers.specs.Intents.{no_intent}
use Rattle.sm_registers.specs.State.{queues_of, settled_ports, told}
use Rattle.sm_registers.specs.Tick.{word_at, tick_of}
use Rattle.sm_registers.specs.StallFlags.{IsKnown, IsToldAct}
use Rattle.dreq_pacing.specs.declared.due.Due.{Due}
use Rattle.block_core.specs.Kept.{AreInStep, memory_alone, IsTold, AreTold}
use Rattle.block_core.specs.Slots.{Slot, first_slot, lined, has_tick, acted, settled_slot, slot_after, place_after}
use Rattle.block_core.specs.Leaps.{leapt_place}
use Rattle.block_core.proofs.Steps.{in_step_after}

-- what the law of ticks that tell nothing new says, as premises here
abbrev pub TellsAfter : Type 0
TellsAfter =
    (s : MachineSetup) (v : View) (f : Fifos) (r : Registers) (sticky : ℕ) → IsKnown v s r sticky
    → IsKnown v s (tick_of s v (queues_of f) r).0 (bit_or (tick_of s v (queues_of f) r).1.sticky sticky)

abbrev pub TellsMore : Type 0
TellsMore = (s : MachineSetup) (v : View) (r : Registers) (more sticky : ℕ) → IsKnown v s r sticky → IsKnown v s r (bit_or more sticky)

-- only the memory counts
word_same : (pending : Option ℕ) (v w : View) (pc : ℕ) → v.memory ≡ w.memory → word_at pending v pc ≡ word_at pending w pc
word_same None v w pc h = ap (λ (m : List ℕ). word_at None (memory_alone m) pc) h
word_same (Some word) v w pc h = refl

pub known_in : (v w : View) (s : MachineSetup) (r : Registers) (sticky : ℕ) → v.memory ≡ w.memory → IsKnown v s r sticky → IsKnown w s r sticky
known_in v w s r sticky e h = λ begun.
    subst (λ word. IsToldAct (act_of word) s r.out_count sticky) (word_same r.pending v w r.pc e) (h begun)

acted_told : TellsAfter → TellsMore → (v : View) (s : Slot) → IsTold v.memory (Some s) →
    IsKnown (memory_alone v.memory) s.machine.setup (acted v s).0 (bit_or (acted v s).1.sticky s.machine.ports.sticky)
unfolding acted
acted_told after more v s h =
    let m = s.machine in
    let alone = memory_alone v.memory in
    let tick = tick_of m.setup v (queues_of m.ports.fifos) m.registers in
    elim (has_tick s) as (λ b. IsKnown alone m.setup (cond b tick (m.registers, no_intent)).0 (bit_or (cond b tick (m.registers, no_intent)).1.sticky m.ports.sticky)) [
      | true ↦ known_in v alone m.setup tick.0 (bit_or tick.1.sticky m.ports.sticky) refl
          (after m.setup v m.ports.fifos m.registers m.ports.sticky (known_in alone v m.setup m.registers m.ports.sticky refl h))
      | false ↦ more m.setup alone m.registers 0 m.ports.sticky h
    ]

slot_told : TellsAfter → TellsMore → (v : View) (d : Due) (s : Slot) → IsTold v.memory (Some s) → IsTold v.memory (Some (slot_after v d s))
unfolding settled_slot settled_ports
slot_told after more v d s h =
    let id = s.machine.setup.id in
    let f = s.machine.ports.fifos in
    more s.machine.setup (memory_alone v.memory) (acted v (lined d s)).0 (told (is_over (slice_index_or d.word id None) f) (is_under (slice_index_or d.read id false) f)) _
    (acted_told after more v (lined d s) h)

pub place_told : TellsAfter → TellsMore → (memory : List ℕ) (v : View) (d : Due) (s t : Option Slot) → v.memory ≡ memory → IsTold memory s → t ≡ place_after v d s → IsTold memory t
place_told after more memory v d s t m h e = subst (IsTold memory) (sym e) (subst (λ x. IsTold x (place_after v d s)) m (from s (subst (λ x. IsTold x s) (sym m) h))) where
  from : (s : Option Slot) → IsTold v.memory s → IsTold v.memory (place_after v d s)
  from None h = tt
  from (Some s) h = slot_told after more v d s h

-- so all four places stay in step, with these flags up, over a clock
pub all_in_step : TellsAfter → TellsMore → (memory : List ℕ) (clock : ℕ) (v : View) (d : Due) {a b c e s t u w : Option Slot} → v.memory ≡ memory → AreInStep memory clock a b c e → s ≡ place_after v d a → t ≡ place_after v d b → u ≡ place_after v d c → w ≡ place_after v d e → AreInStep memory (clock + 1) s t u w
all_in_step after more memory clock v d m kept f g h i =
    let told = kept.told in
    let next = place_told after more memory v d in
    record {
      told = (next _ _ m told.0 f, (next _ _ m told.1.0 g, (next _ _ m told.1.1.0 h, (next _ _ m told.1.1.1.0 i, tt))));
      first = in_step_after clock v d _ _ kept.first f;
      second = in_step_after clock v d _ _ kept.second g;
      third = in_step_after clock v d _ _ kept.third h;
      fourth = in_step_after clock v d _ _ kept.fourth i;
    }

-- at the start no instruction has stalled
pub first_told : (memory : List ℕ) (m : Option MachineSetup) (s : Option Slot) → s ≡ option_map first_slot m → IsTold memory s
first_told memory m s e = subst (IsTold memory) (sym e) (cases m) where
  cases : (m : Option MachineSetup) → IsTold memory (option_map first_slot m)
  cases None = tt
  cases (Some setup) = λ begun. cc

-- a delay doesn't count here
place_told_leapt : (memory : List ℕ) (n : ℕ) (s : Option Slot) → IsTold memory s → IsTold memory (leapt_place n s)
place_told_leapt memory n None h = tt
place_told_leapt memory n (Some s) h = h

pub told_leapt : (memory : List ℕ) (n : ℕ) (places : List (Option Slot)) → AreTold memory places → AreTold memory (map (leapt_place n) places)
told_leapt memory n [] h = tt
told_leapt memory n (s ∷ places) h = (place_told_leapt memory n s h.0, told_leapt memory n places h.1)
