-- What four machines want of their block, merged one after the other, and the clock that comes of it.
use Rattle.std.proofs.Common.{◌≡◌, ℕ, ◌+◌, Bool, true, false, ◌||◌, Option, List, [], ◌∷◌, map, refl, sym}
use Rattle.std.specs.Int.Bits.{or_zero_r}
use Rattle.irq_flags.specs.Flags.{merged_flags}
use Rattle.pin_matrix.specs.Pins.{merged}
use Rattle.pin_matrix.specs.Pads as pads
use Rattle.pin_matrix.specs.Pads.{Synchroniser, seen_of}
use Rattle.sm_registers.specs.View.{View}
use Rattle.sm_registers.specs.declared.intent.Intent.{Intent}
use Rattle.sm_registers.specs.Intents.{no_intent}
use Rattle.dreq_pacing.specs.declared.due.Due.{Due}
use Rattle.block_core.specs.declared.merging.Wanted.{Wanted}
use Rattle.block_core.specs.Slots.{Slot, place_after, place_intent, place_uses_fifos}
use Rattle.block_core.specs.Block.{Run, next_over, stepped, outside_after, wanted_over, uses_fifos_over, level_writes, direction_writes, any_of}
use Rattle.block_core.specs.Merging.{nothing_wanted, with_intent}

-- a machine that wants nothing adds nothing
pub nothing_added : (w : Wanted) → with_intent w no_intent ≡ w
unfolding with_intent merged
nothing_added w = rw (or_zero_r w.clears, or_zero_r w.sets) refl

-- what is seen of a block
abbrev pub view : (memory : List ℕ) → (seen flags : ℕ) → View
view memory seen flags = record { memory = memory; seen = seen; flags = record { up = flags } }

-- a run of four places
abbrev pub run : (memory : List ℕ) → (clock levels directions flags outside : ℕ) → Synchroniser → (a b c e : Option Slot) → Run
run memory clock levels directions flags outside sync a b c e = record {
  memory = memory;
  clock = clock;
  state = record { machines = a ∷ b ∷ c ∷ e ∷ []; levels = levels; directions = directions; flags = flags; outside = outside };
  synchroniser = sync;
}

-- the clock up to its pins and flags, place by place
pub record IsStep (d : Due) (memory : List ℕ) (levels directions flags outside : ℕ) (sync : Synchroniser) (a b c e : Option Slot) (outside2 pad seen : ℕ) (w0 w1 w2 w3 w4 : Wanted) : Type 0 where
  pub driven : outside2 ≡ outside_after d outside
  pub sees : seen ≡ seen_of sync.bypass pad sync.pad_2
  pub start : w0 ≡ nothing_wanted levels directions
  pub first : w1 ≡ with_intent w0 (place_intent (view memory seen flags) d a)
  pub second : w2 ≡ with_intent w1 (place_intent (view memory seen flags) d b)
  pub third : w3 ≡ with_intent w2 (place_intent (view memory seen flags) d c)
  pub fourth : w4 ≡ with_intent w3 (place_intent (view memory seen flags) d e)

pub all_added : (d : Due) (memory : List ℕ) (clock levels directions flags outside : ℕ) (sync : Synchroniser)
    (a b c e : Option Slot) (outside2 pad seen : ℕ) (w0 w1 w2 w3 w4 : Wanted)
    → IsStep d memory levels directions flags outside sync a b c e outside2 pad seen w0 w1 w2 w3 w4 →
    let wanted = wanted_over pad d (run memory clock levels directions flags outside sync a b c e) in
    w4 ≡ record {
      outputs = record {
        levels = merged levels (level_writes wanted);
        directions = merged directions (direction_writes wanted);
      };
      clears = any_of (map (λ (i : Intent). i.clears) wanted);
      sets = any_of (map (λ (i : Intent). i.sets) wanted);
    }
unfolding nothing_wanted with_intent merged
all_added d memory clock levels directions flags outside sync a b c e outside2 pad seen w0 w1 w2 w3 w4 s =
    rw (s.fourth, s.third, s.second, s.first, s.start, s.sees) refl

-- the run after the clock
pub next_run : (d : Due) (memory : List ℕ) (clock levels directions flags outside : ℕ) (sync : Synchroniser)
    (a b c e : Option Slot) (outside2 pad seen : ℕ) (w0 w1 w2 w3 w4 : Wanted) (flags2 : ℕ) (sync2 : Synchroniser)
    (a2 b2 c2 e2 : Option Slot)
    → IsStep d memory levels directions flags outside sync a b c e outside2 pad seen w0 w1 w2 w3 w4
    → flags2 ≡ merged_flags flags w4.clears w4.sets → sync2 ≡ pads.stepped pad sync
    → a2 ≡ place_after (view memory seen flags) d a → b2 ≡ place_after (view memory seen flags) d b
    → c2 ≡ place_after (view memory seen flags) d c → e2 ≡ place_after (view memory seen flags) d e
    → run memory (clock + 1) w4.outputs.levels w4.outputs.directions flags2 outside2 sync2 a2 b2 c2 e2
    ≡ next_over pad d (run memory clock levels directions flags outside sync a b c e)
unfolding stepped
next_run d memory clock levels directions flags outside sync a b c e outside2 pad seen w0 w1 w2 w3 w4 flags2 sync2 a2 b2 c2 e2 s f y ea eb ec ee =
    rw (
      f,
      all_added d memory clock levels directions flags outside sync a b c e outside2 pad seen w0 w1 w2 w3 w4 s,
      ea,
      eb,
      ec,
      ee,
      y,
      s.sees,
      s.driven,
    ) refl

-- what was used before is all, where a place uses nothing
pub unused : (used : Bool) {now : Bool} → false ≡ now → used ≡ (used || now)
unused true e = refl
unused false e = e

-- four places one after the other, after what was before them, or all at once
pub join : (t a b c e : Bool) → (t || (a || (b || (c || (e || false))))) ≡ ((((t || a) || b) || c) || e)
join false false false false false = refl
join false false false false true = refl
join false false false true e = refl
join false false true c e = refl
join false true b c e = refl
join true a b c e = refl

-- whether anything was done at any FIFO
pub any_used : (d : Due) (memory : List ℕ) (clock levels directions flags outside : ℕ) (sync : Synchroniser)
    (a b c e : Option Slot) (outside2 pad seen : ℕ) (w0 w1 w2 w3 w4 : Wanted)
    → IsStep d memory levels directions flags outside sync a b c e outside2 pad seen w0 w1 w2 w3 w4
    → (u1 u2 u3 u4 : Bool) → u1 ≡ place_uses_fifos (view memory seen flags) d a
    → u2 ≡ (u1 || place_uses_fifos (view memory seen flags) d b)
    → u3 ≡ (u2 || place_uses_fifos (view memory seen flags) d c)
    → u4 ≡ (u3 || place_uses_fifos (view memory seen flags) d e)
    → u4 ≡ uses_fifos_over pad d (run memory clock levels directions flags outside sync a b c e)
any_used d memory clock levels directions flags outside sync a b c e outside2 pad seen w0 w1 w2 w3 w4 s u1 u2 u3 u4 f1 f2 f3 f4 =
    rw (f4, f3, f2, f1, s.sees) (sym (join false (place_uses_fifos _ d a) (place_uses_fifos _ d b) (place_uses_fifos _ d c) (place_uses_fifos _ d e)))
