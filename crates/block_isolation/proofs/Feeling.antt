-- A machine that is among its words reads only its pins and flags, changes only its flags, and writes only its pins.
use Rattle.std.proofs.Common.{◌≡◌, ◌∙◌, ℕ, ◌^◌, ◌<◌, nat_lt, bit_or, Bool, true, false, not, ◌||◌, cond, Option, Some, None, ◌⊎◌, List, slice_index, refl, sym, ap, subst, inl, inr, arith}
use Rattle.std.proofs.lemmas.Bool.{cases_Bool, or_parts}
use Rattle.std.specs.Int.{bit_at}
use Rattle.std.specs.List.{AllByRecursion}
use Rattle.pio_encode.specs.declared.act.Act.{Act}
use Rattle.pio_encode.specs.declared.op.Op.{Op}
use Rattle.pio_encode.specs.Word.{act_of, reading_of}
use Rattle.pin_matrix.specs.Pins.{IsFree}
use Rattle.pin_matrix.specs.declared.machine.MachineSetup.{MachineSetup}
use Rattle.pin_matrix.specs.declared.mapping.Mapping.{Mapping}
use Rattle.sm_registers.specs.declared.registers.Registers.{Registers}
use Rattle.sm_registers.specs.View.{View}
use Rattle.sm_registers.specs.declared.intent.Intent.{Intent}
use Rattle.sm_registers.specs.Effects.{effect_of}
use Rattle.sm_registers.specs.Laws.{read_of}
use Rattle.sm_registers.specs.Queues.{Queues}
use Rattle.sm_registers.specs.Rules.{holds}
use Rattle.sm_registers.specs.Tick.{word_at, current_word, tick_delay, tick_by, tick_word, tick_of}
use Rattle.block_shares.specs.declared.touched.Touches.{Touches}
use Rattle.block_shares.specs.Acts.{has, reads_of, sees_of, changes_of}
use Rattle.block_shares.specs.Reach.{act_at, of_first, gathered, reach_of}
use Rattle.block_shares.specs.Shares.{pins_of, writes_by, touched_wildly, touched_by}
use Rattle.block_isolation.proofs.Bits.{bit_down, has_ones, has_or, has_or_left, has_or_right, has_zero}
use Rattle.block_isolation.proofs.Changing.{IsAmong, changes_among}
use Rattle.block_isolation.proofs.Homes.{IsHome, runs_memory, runs_first, home_there, act_read}
use Rattle.block_isolation.proofs.Premises.{TickLaws, PinLaws}
use Rattle.block_isolation.proofs.Ranged.{ranged_word}
use Rattle.block_isolation.proofs.Reaching.{gathered_has}
use Rattle.block_isolation.proofs.Seeing.{SeesSame, reads_same}
use Rattle.block_isolation.proofs.Touching.{IsTame, wild_or_tame}

-- two views are the same to a machine that touches this
pub record SeemsSame (t : Touches) (v w : View) : Type 0 where
  pub words : (a : ℕ) → a < 32 → has t.reach a ≡ true → slice_index v.memory a ≡ slice_index w.memory a
  pub sees : SeesSame t.reads t.sees v w

-- what an instruction reads, waits for and changes is the machine's
record IsOwnAct (t : Touches) (s : MachineSetup) (act : Act) : Type 0 where
  reads : (i : ℕ) → has (reads_of act s) i ≡ true → has t.reads i ≡ true
  sees : (i : ℕ) → has (sees_of act s) i ≡ true → has t.sees i ≡ true
  changes : (i : ℕ) → has (changes_of act s) i ≡ true → has t.changes i ≡ true

-- what a reached instruction has is among what is joined
reached_has : (f : Act → ℕ) (memory : List ℕ) (s : MachineSetup) (a i : ℕ) → a < 32 → has (reach_of memory s) a ≡ true → has (f (act_at memory a)) i ≡ true
    → has (bit_or (of_first f s.pending) (gathered (λ b act. f act) memory (reach_of memory s) 32)) i ≡ true
reached_has f memory s a i inside reached h =
    has_or_right (of_first f s.pending) (gathered (λ b act. f act) memory (reach_of memory s) 32) i (gathered_has (λ b act. f act) memory (reach_of memory s) 32 a i inside reached h)

-- and so is what the word has that is executed first
first_has : (f : Act → ℕ) (memory : List ℕ) (s : MachineSetup) (word i : ℕ) → s.pending ≡ Some word → has (f (act_of word)) i ≡ true
    → has (bit_or (of_first f s.pending) (gathered (λ b act. f act) memory (reach_of memory s) 32)) i ≡ true
first_has f memory s word i is h =
    has_or_left (of_first f s.pending) (gathered (λ b act. f act) memory (reach_of memory s) 32) i (ap (λ (p : Option ℕ). has (of_first f p) i) is ∙ h)

own_word : (memory : List ℕ) (s : MachineSetup) (a : ℕ) → IsTame memory s → a < 32 → has (reach_of memory s) a ≡ true → IsOwnAct (touched_by memory s) s (act_at memory a)
own_word memory s a tame inside reached = record {
  reads = λ i h. ap (λ (t : Touches). has t.reads i) tame.is ∙ reached_has (λ act. reads_of act s) memory s a i inside reached h;
  sees = λ i h. ap (λ (t : Touches). has t.sees i) tame.is ∙ reached_has (λ act. sees_of act s) memory s a i inside reached h;
  changes = λ i h. ap (λ (t : Touches). has t.changes i) tame.is ∙ reached_has (λ act. changes_of act s) memory s a i inside reached h;
}

own_first : (memory : List ℕ) (s : MachineSetup) (word : ℕ) → IsTame memory s → s.pending ≡ Some word → IsOwnAct (touched_by memory s) s (act_of word)
own_first memory s word tame is = record {
  reads = λ i h. ap (λ (t : Touches). has t.reads i) tame.is ∙ first_has (λ act. reads_of act s) memory s word i is h;
  sees = λ i h. ap (λ (t : Touches). has t.sees i) tame.is ∙ first_has (λ act. sees_of act s) memory s word i is h;
  changes = λ i h. ap (λ (t : Touches). has t.changes i) tame.is ∙ first_has (λ act. changes_of act s) memory s word i is h;
}

-- what a machine runs that is at home, where it isn't wild
own_act : (memory : List ℕ) (s : MachineSetup) (v : View) (r : Registers) → v.memory ≡ memory → IsHome memory s r
    → (touched_by memory s ≡ touched_wildly s) ⊎ IsOwnAct (touched_by memory s) s (act_of (current_word v r))
own_act memory s v r same home =
    elim (wild_or_tame memory s) [
      | inl wild ↦ inl wild
      | inr tame ↦ elim (home_there memory s r tame home) [
        | inl (inl at) ↦ inr (subst (IsOwnAct (touched_by memory s) s) (sym (runs_memory memory v r same at.pending)) (own_word memory s r.pc tame home.placed.pc at.reached))
        | inl (inr at) ↦ inr (subst (IsOwnAct (touched_by memory s) s) (sym (runs_first s v r at)) (own_first memory s at.word tame at.first))
        | inr wild ↦ inl wild
      ]
    ]

-- what an instruction reads is the machine's: of any, where it is wild
narrowed : (t : Touches) (pins flags : ℕ) (v w : View) → SeesSame t.reads t.sees v w → ((i : ℕ) → i < 32 → has pins i ≡ true → has t.reads i ≡ true) → ((i : ℕ) → i < 8 → has flags i ≡ true → has t.sees i ≡ true) → SeesSame pins flags v w
narrowed t pins flags v w h p f = record {
  on_pins = λ i inside k. h.on_pins i inside (p i inside k);
  on_flags = λ i inside k. h.on_flags i inside (f i inside k);
  one = h.one;
  other = h.other;
}

reads_alike : PinLaws → (memory : List ℕ) (s : MachineSetup) (r : Registers) (v w : View) → v.memory ≡ memory → IsHome memory s r → SeesSame (touched_by memory s).reads (touched_by memory s).sees v w → read_of (act_of (current_word v r)) s r v ≡ read_of (act_of (current_word v r)) s r w
reads_alike laws memory s r v w same home sees =
    let act = act_of (current_word v r) in
    let range = (ranged_word (current_word v r)).range in
    let t = touched_by memory s in
    elim (own_act memory s v r same home) [
      | inl wild ↦ reads_same laws act s r v w range (narrowed t (reads_of act s) (sees_of act s) v w sees
          (λ i inside k. ap (λ (u : Touches). has u.reads i) wild ∙ has_ones 32 i inside)
          (λ i inside k. ap (λ (u : Touches). has u.sees i) wild ∙ has_ones 8 i inside))
      | inr own ↦ reads_same laws act s r v w range (narrowed t (reads_of act s) (sees_of act s) v w sees (λ i inside k. own.reads i k) (λ i inside k. own.sees i k))
    ]

-- the word that it runs is the same
word_alike : (p : Option ℕ) (v w : View) (pc : ℕ) → (p ≡ None → slice_index v.memory pc ≡ slice_index w.memory pc) → word_at p v pc ≡ word_at p w pc
word_alike None v w pc h = h refl
word_alike (Some word) v w pc h = refl

pub tick_same : TickLaws → PinLaws → (memory : List ℕ) (s : MachineSetup) (v w : View) (q : Queues) (r : Registers) → v.memory ≡ memory → IsHome memory s r → SeemsSame (touched_by memory s) v w → tick_of s v q r ≡ tick_of s w q r
tick_same laws pins memory s v w q r same home seems =
    laws.sees s v w q r (record {
      word = word_alike r.pending v w r.pc (λ none. seems.words r.pc home.placed.pc (home.reached none));
      reads = reads_alike pins memory s r v w same home seems.sees;
    })

-- the flags that a tick lowers and raises are the machine's
pub record ChangesOwn (t : Touches) (i : Intent) : Type 0 where
  pub clears : (f : ℕ) → f < 8 → has t.changes f ≡ false → has i.clears f ≡ false
  pub sets : (f : ℕ) → f < 8 → has t.changes f ≡ false → has i.sets f ≡ false
  pub below : i.clears < 2 ^ 8

among_not : (some flags f : ℕ) → IsAmong some flags → has some f ≡ false → has flags f ≡ false
among_not some flags f h k = elim (cases_Bool (has flags f)) [
  | inl up ↦ let some_up = h.among f up in cc
  | inr down ↦ down
]

within_not : (some own f : ℕ) → ((i : ℕ) → has some i ≡ true → has own i ≡ true) → has own f ≡ false → has some f ≡ false
within_not some own f h k = elim (cases_Bool (has some f)) [
  | inl up ↦ let own_up = h f up in cc
  | inr down ↦ down
]

changes_tick : (t : Touches) (s : MachineSetup) (v : View) (q : Queues) (r : Registers) → ((f : ℕ) → f < 8 → has t.changes f ≡ false → has (changes_of (reading_of (current_word v r) s.side_rule).act s) f ≡ false) → ChangesOwn t (tick_of s v q r).1
unfolding tick_of tick_delay tick_word tick_by
changes_tick t s v q r h =
    let op : Op = reading_of (current_word v r) s.side_rule in
    let e = changes_among op.act s v q r in
    elim (nat_lt 0 r.delay) as (λ b. ChangesOwn t (cond b (tick_delay s q r) (tick_word op s v q r)).1) [
      | true ↦ record { clears = λ f inside k. has_zero f; sets = λ f inside k. has_zero f; below = omega arith }
      | false ↦ record {
        clears = λ f inside k. among_not (changes_of op.act s) (effect_of op.act s v q r).clears f e.clears (h f inside k);
        sets = λ f inside k. among_not (changes_of op.act s) (effect_of op.act s v q r).sets f e.sets (h f inside k);
        below = e.clears.below;
      }
    ]

pub changes_own : (memory : List ℕ) (s : MachineSetup) (v : View) (q : Queues) (r : Registers) → v.memory ≡ memory → IsHome memory s r → ChangesOwn (touched_by memory s) (tick_of s v q r).1
changes_own memory s v q r same home =
    let t = touched_by memory s in
    elim (own_act memory s v r same home) [
      | inl wild ↦ changes_tick t s v q r (λ f inside k. absurd (let up : has t.changes f ≡ true = ap (λ (u : Touches). has u.changes f) wild ∙ has_ones 8 f inside in cc))
      | inr own ↦ changes_tick t s v q r (λ f inside k. ap (λ (a : Act). has (changes_of a s) f) (act_read s v r) ∙ within_not (changes_of (act_of (current_word v r)) s) t.changes f own.changes k)
    ]

-- the pins that a tick writes are the machine's
unmapped : PinLaws → (m : Mapping) (p : ℕ) → p < 32 → has (pins_of m) p ≡ false → holds m p ≡ false
unmapped laws m p inside h =
    elim (cases_Bool (holds m p)) [
      | inl up ↦ let one : bit_at (pins_of m) p ≡ 1 = laws.mapped m 0 p inside ∙ ap (λ b. cond b 1 0) up in absurd (let none = bit_down (pins_of m) p h in omega (arith, one, none))
      | inr down ↦ down
    ]

or_unheld : (a b : Bool) → b ≡ false → (a || not b) ≡ true
or_unheld true b h = refl
or_unheld false b h = ap not h

pub record LeavesPin (p : ℕ) (i : Intent) : Type 0 where
  pub level : AllByRecursion (IsFree p) i.level
  pub direction : AllByRecursion (IsFree p) i.direction

pub leaves_pin : TickLaws → PinLaws → (s : MachineSetup) (v : View) (q : Queues) (r : Registers) (p : ℕ) → p < 32 → has (writes_by s) p ≡ false → LeavesPin p (tick_of s v q r).1
leaves_pin laws pins s v q r p inside h =
    let parts = or_parts (has (pins_of s.side) p) (has (bit_or (pins_of s.out) (pins_of s.set)) p) (sym (has_or (pins_of s.side) (bit_or (pins_of s.out) (pins_of s.set)) p) ∙ h) in
    let rest = or_parts (has (pins_of s.out) p) (has (pins_of s.set) p) (sym (has_or (pins_of s.out) (pins_of s.set) p) ∙ parts.1) in
    let side = unmapped pins s.side p inside parts.0 in
    let out = unmapped pins s.out p inside rest.0 in
    let set = unmapped pins s.set p inside rest.1 in
    record {
      level = laws.levels s v q r p inside out set (or_unheld s.side_rule.pindirs (holds s.side p) side);
      direction = laws.directions s v q r p inside out set (or_unheld (not s.side_rule.pindirs) (holds s.side p) side);
    }
