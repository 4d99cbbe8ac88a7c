-- A tick keeps a machine among the words that it reaches, reads only what those words read, and changes only what they change.
use Rattle.std.proofs.Common.{◌≡◌, ◌∙◌, ℕ, ◌-◌, ◌<◌, nat_lt, nat_le, true, false, ◌&&◌, cond, ◌⊎◌, Option, Some, None, is_some, List, slice_index, refl, sym, ap, subst, inl, inr}
use Rattle.std.proofs.lemmas.Bool.{cases_Bool}
use Rattle.pio_encode.specs.declared.act.Act.{Act}
use Rattle.pio_encode.specs.declared.op.Op.{Op}
use Rattle.pio_encode.specs.Word.{act_of, reading_of}
use Rattle.pin_matrix.specs.declared.machine.MachineSetup.{MachineSetup}
use Rattle.sm_registers.specs.declared.registers.Registers.{Registers}
use Rattle.sm_registers.specs.View.{View}
use Rattle.sm_registers.specs.Effects.{Effect, effect_of}
use Rattle.sm_registers.specs.Queues.{Queues}
use Rattle.sm_registers.specs.Ranges.{IsPlaced}
use Rattle.sm_registers.specs.Tick.{word_at, current_word, next_pc, pc_after, after_effect, osr_filled_from, refilled, tick_delay, tick_by, tick_word, tick_of}
use Rattle.block_shares.specs.declared.touched.Touches.{Touches}
use Rattle.block_shares.specs.Acts.{has, leads_to, is_wild}
use Rattle.block_shares.specs.Reach.{act_at, first_in, reach_of, begins_wild}
use Rattle.block_shares.specs.Shares.{touched_wildly, touched_by}
use Rattle.block_isolation.proofs.Bits.{has_ones}
use Rattle.block_isolation.proofs.Going.{HasPlaceOf, IsTameEffect, target, tame_effect}
use Rattle.block_isolation.proofs.Premises.{TickLaws}
use Rattle.block_isolation.proofs.Reaching.{reach_goes, reach_starts}
use Rattle.block_isolation.proofs.Touching.{IsTame, wild_or_tame}

-- at an instruction of memory that it reaches
pub record IsAtWord (memory : List ℕ) (s : MachineSetup) (r : Registers) : Type 0 where
  pub reached : has (reach_of memory s) r.pc ≡ true
  pub pending : r.pending ≡ None

-- at its start, with the word that it executes first
pub record IsAtFirst (s : MachineSetup) (r : Registers) : Type 0 where
  pub word : ℕ
  pub first : s.pending ≡ Some word
  pub pending : r.pending ≡ Some word
  pub pc : r.pc ≡ s.start

-- A machine is among the words that it reaches, or at the one that it executes first; any other is pending only where it is wild.
pub record IsHome (memory : List ℕ) (s : MachineSetup) (r : Registers) : Type 0 where
  pub placed : IsPlaced r
  pub reached : r.pending ≡ None → has (touched_by memory s).reach r.pc ≡ true
  pub pending : ((r.pending ≡ None) ⊎ IsAtFirst s r) ⊎ (touched_by memory s ≡ touched_wildly s)

-- the reach of a wild machine is all
wild_reach : (memory : List ℕ) (s : MachineSetup) (pc : ℕ) → touched_by memory s ≡ touched_wildly s → pc < 32 → has (touched_by memory s).reach pc ≡ true
wild_reach memory s pc wild inside = ap (λ (t : Touches). has t.reach pc) wild ∙ has_ones 32 pc inside

-- a wild machine is at home wherever it is
wild_home : (memory : List ℕ) (s : MachineSetup) (r : Registers) → IsPlaced r → touched_by memory s ≡ touched_wildly s → IsHome memory s r
wild_home memory s r placed wild = record { placed = placed; reached = λ none. wild_reach memory s r.pc wild placed.pc; pending = inr wild }

-- the word that it runs is the one at PC, or the one that it executes first
pub runs_memory : (memory : List ℕ) (v : View) (r : Registers) → v.memory ≡ memory → r.pending ≡ None → act_of (current_word v r) ≡ act_at memory r.pc
runs_memory memory v r same none = ap (λ (p : Option ℕ). act_of (word_at p v r.pc)) none ∙ ap (λ (m : List ℕ). act_of (slice_index m r.pc)) same

pub runs_first : (s : MachineSetup) (v : View) (r : Registers) (at : IsAtFirst s r) → act_of (current_word v r) ≡ act_of at.word
runs_first s v r at = ap (λ (p : Option ℕ). act_of (word_at p v r.pc)) at.pending

-- a refill moves neither PC nor the pending word
filled_place : (front : Option ℕ) (r : Registers) → HasPlaceOf r (osr_filled_from front r)
filled_place None r = record { pc = refl; pending = refl }
filled_place (Some w) r = record { pc = refl; pending = refl }

refilled_place : (s : MachineSetup) (q : Queues) (r : Registers) → HasPlaceOf r (refilled s q r)
refilled_place s q r =
    elim (s.autopull && nat_le s.pull_threshold r.out_count) as (λ b. HasPlaceOf r (cond b (osr_filled_from q.front r) r)) [
      | true ↦ filled_place q.front r
      | false ↦ record { pc = refl; pending = refl }
    ]

-- where a tame machine is
abbrev IsThere : List ℕ → MachineSetup → Registers → Type 0
IsThere memory s r = IsAtWord memory s r ⊎ IsAtFirst s r

there_placed : (memory : List ℕ) (s : MachineSetup) (r x : Registers) → HasPlaceOf r x → IsThere memory s r → IsThere memory s x
there_placed memory s r x p (inl h) = inl (record { reached = ap (λ (a : ℕ). has (reach_of memory s) a) p.pc ∙ h.reached; pending = p.pending ∙ h.pending })
there_placed memory s r x p (inr h) = inr (record { word = h.word; first = h.first; pending = p.pending ∙ h.pending; pc = p.pc ∙ h.pc })

there_refilled : (memory : List ℕ) (s t : MachineSetup) (q : Queues) (r : Registers) → IsThere memory s r → IsThere memory s (refilled t q r)
there_refilled memory s t q r h = there_placed memory s r (refilled t q r) (refilled_place t q r) h

pc_target : (jump : Option ℕ) (s : MachineSetup) (r : Registers) → pc_after jump false s r ≡ target (next_pc s r) jump
pc_target None s r = refl
pc_target (Some a) s r = refl

pc_target_first : (jump : Option ℕ) (s : MachineSetup) (r : Registers) → pc_after jump true s r ≡ target r.pc jump
pc_target_first None s r = refl
pc_target_first (Some a) s r = refl

-- what it runs, and the address that follows on it
pub record Runs (memory : List ℕ) (s : MachineSetup) (r : Registers) (act : Act) (next : ℕ) : Type 0 where
  tame : is_wild act ≡ false
  goes : (jump : Option ℕ) → pc_after jump (is_some r.pending) s r ≡ target next jump
  reached : (i : ℕ) → i < 32 → has (leads_to act next) i ≡ true → has (reach_of memory s) i ≡ true

runs_word : (memory : List ℕ) (s : MachineSetup) (r : Registers) → IsTame memory s → r.pc < 32 → IsAtWord memory s r → Runs memory s r (act_at memory r.pc) (next_pc s r)
runs_word memory s r tame inside at = record {
  tame = tame.tame r.pc inside at.reached;
  goes = λ jump. ap (λ (p : Option ℕ). pc_after jump (is_some p) s r) at.pending ∙ pc_target jump s r;
  reached = λ i below h. reach_goes memory s r.pc i inside at.reached below h;
}

first_tame : (pending : Option ℕ) (word : ℕ) → pending ≡ Some word → begins_wild pending ≡ false → is_wild (act_of word) ≡ false
first_tame pending word is tame = ap begins_wild (sym is) ∙ tame

runs_started : (memory : List ℕ) (s : MachineSetup) (r : Registers) → IsTame memory s → (at : IsAtFirst s r) → Runs memory s r (act_of at.word) r.pc
runs_started memory s r tame at = record {
  tame = first_tame s.pending at.word at.first tame.first;
  goes = λ jump. ap (λ (p : Option ℕ). pc_after jump (is_some p) s r) at.pending ∙ pc_target_first jump s r;
  reached = λ i below h. reach_starts memory s i below (
      ap (λ (p : Option ℕ). has (first_in p s.start) i) at.first
      ∙ (ap (λ (a : ℕ). has (leads_to (act_of at.word) a) i) (sym at.pc) ∙ h));
}

after_there : (memory : List ℕ) (s : MachineSetup) (delay : ℕ) (r : Registers) (act : Act) (next : ℕ) (e : Effect) → Runs memory s r act next → IsTameEffect act next r e → IsThere memory s r
    → (after_effect delay s r e).pc < 32 → IsThere memory s (after_effect delay s r e)
unfolding after_effect
after_there memory s delay r act next e runs tame there below =
    elim (cases_Bool e.stalled) [
      | inl stalled ↦ rw stalled (there_placed memory s r (record e.registers { begun = true }) (record { pc = tame.registers.pc; pending = tame.registers.pending }) there)
      | inr done ↦ rw done (
          let at : pc_after e.jump (is_some r.pending) s r ≡ target next e.jump = runs.goes e.jump in
          let below' : pc_after e.jump (is_some r.pending) s r < 32 = rw done at below in
          let within : target next e.jump < 32 = rw at at below' in
          inl (record {
            reached = ap (λ (a : ℕ). has (reach_of memory s) a) at ∙ runs.reached (target next e.jump) within tame.goes;
            pending = tame.pending;
          }))
    ]

-- the reading of a word has its act
pub act_read : (s : MachineSetup) (v : View) (r : Registers) → (reading_of (current_word v r) s.side_rule).act ≡ act_of (current_word v r)
unfolding reading_of
act_read s v r = refl

tick_runs : TickLaws → (memory : List ℕ) (s : MachineSetup) (v : View) (q : Queues) (r : Registers) (act : Act) (next : ℕ) → act_of (current_word v r) ≡ act → IsPlaced r
    → Runs memory s r act next → IsThere memory s r → IsThere memory s (tick_of s v q r).0
unfolding tick_of tick_delay tick_word tick_by
tick_runs laws memory s v q r act next is placed runs there =
    elim (cases_Bool (nat_lt 0 r.delay)) [
      | inl delayed ↦ rw delayed (there_refilled memory s s q (record r { delay = r.delay - 1 }) (there_placed memory s r (record r { delay = r.delay - 1 }) (record { pc = refl; pending = refl }) there))
      | inr now ↦
          let op : Op = reading_of (current_word v r) s.side_rule in
          let same : op.act ≡ act = act_read s v r ∙ is in
          let calm : is_wild op.act ≡ false = ap is_wild same ∙ runs.tame in
          let effect : IsTameEffect act next r (effect_of op.act s v q r) =
          subst (λ (a : Act). IsTameEffect a next r (effect_of op.act s v q r)) same (tame_effect op.act next s v q r calm) in
          let after = laws.placed s v q r placed in
          let after' : IsPlaced (refilled s q (after_effect op.delay s r (effect_of op.act s v q r))) = rw now at after in
          let still = refilled_place s q (after_effect op.delay s r (effect_of op.act s v q r)) in
          let below : (after_effect op.delay s r (effect_of op.act s v q r)).pc < 32 = subst (λ (a : ℕ). a < 32) still.pc after'.pc in
          rw now (there_refilled memory s s q (after_effect op.delay s r (effect_of op.act s v q r)) (after_there memory s op.delay r act next (effect_of op.act s v q r) runs effect there below))
    ]

tick_there : TickLaws → (memory : List ℕ) (s : MachineSetup) (v : View) (q : Queues) (r : Registers) → v.memory ≡ memory → IsPlaced r → IsTame memory s → IsThere memory s r → IsThere memory s (tick_of s v q r).0
tick_there laws memory s v q r same placed tame (inl at) =
    tick_runs laws memory s v q r (act_at memory r.pc) (next_pc s r) (runs_memory memory v r same at.pending) placed (runs_word memory s r tame placed.pc at) (inl at)
tick_there laws memory s v q r same placed tame (inr at) =
    tick_runs laws memory s v q r (act_of at.word) r.pc (runs_first s v r at) placed (runs_started memory s r tame at) (inr at)

there_home : (memory : List ℕ) (s : MachineSetup) (r : Registers) → IsTame memory s → IsPlaced r → IsThere memory s r → IsHome memory s r
there_home memory s r tame placed (inl at) = record {
  placed = placed;
  reached = λ none. ap (λ (t : Touches). has t.reach r.pc) tame.is ∙ at.reached;
  pending = inl (inl at.pending);
}
there_home memory s r tame placed (inr at) = record {
  placed = placed;
  reached = λ none. absurd (let pends = at.pending in cc);
  pending = inl (inr at);
}

-- where a tame machine is that is at home
pub home_there : (memory : List ℕ) (s : MachineSetup) (r : Registers) → IsTame memory s → IsHome memory s r → (IsAtWord memory s r ⊎ IsAtFirst s r) ⊎ (touched_by memory s ≡ touched_wildly s)
home_there memory s r tame home = elim home.pending [
  | inl (inl none) ↦ inl (inl (record { reached = ap (λ (t : Touches). has t.reach r.pc) (sym tame.is) ∙ home.reached none; pending = none }))
  | inl (inr at) ↦ inl (inr at)
  | inr wild ↦ inr wild
]

-- a tick keeps a machine at home
pub home_tick : TickLaws → (memory : List ℕ) (s : MachineSetup) (v : View) (q : Queues) (r : Registers) → v.memory ≡ memory → IsHome memory s r → IsHome memory s (tick_of s v q r).0
home_tick laws memory s v q r same home =
    let placed = laws.placed s v q r home.placed in
    elim (wild_or_tame memory s) [
      | inl wild ↦ wild_home memory s (tick_of s v q r).0 placed wild
      | inr tame ↦ elim (home_there memory s r tame home) [
        | inl there ↦ there_home memory s (tick_of s v q r).0 tame placed (tick_there laws memory s v q r same home.placed tame there)
        | inr wild ↦ wild_home memory s (tick_of s v q r).0 placed wild
      ]
    ]
