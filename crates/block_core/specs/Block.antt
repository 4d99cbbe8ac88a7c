-- The whole block, clock by clock.
--   BlockState      what changes of it in a clock
--   Run             it in some clock, with what its synchronisers hold
--   Worked          with the number of clocks that were worked out singly
--   stepped         the state after a clock
--   next_over       the run after a clock with given pads, next with its own
--   TakesLastWrites that of the writes to each pin the last counts
--   first_run_over  as a setup begins with given pads, first_run with its own
--   run_from        some clocks on
--   run_at          the run of a setup in each clock
use Rattle.std.specs.Prelude.{◌≡◌, ℕ, zero, suc, ◌+◌, ◌<◌, Bool, Option, None, option_map, List, [], ◌∷◌, map, flat_map, slice_index_or, bit_or}
use Rattle.std.specs.Int.{bit_at}
use Rattle.std.specs.List.{list_any}
use Rattle.irq_flags.specs.Flags.{merged_flags}
use Rattle.pin_matrix.specs.declared.setup.Setup.{Setup}
use Rattle.pin_matrix.specs.Pins.{written, merged, last_of}
use Rattle.pin_matrix.specs.Pads as pads
use Rattle.pin_matrix.specs.Pads.{Synchroniser, pads_of, seen_of, first_synchroniser}
use Rattle.sm_registers.specs.View.{View}
use Rattle.sm_registers.specs.declared.intent.Intent.{Intent}
use Rattle.sm_registers.specs.Intents.{two_writes}
use Rattle.dreq_pacing.specs.declared.due.Due.{Due}
use Rattle.block_core.specs.Slots.{Slot, first_slot, place_after, place_intent, place_uses_fifos}

-- The four machines' places, each with its machine where one is configured; the output levels and directions, the IRQ
-- flags, and the levels that the outside drives.
pub record BlockState : Type 0 where
  pub machines : List (Option Slot)
  pub levels : ℕ
  pub directions : ℕ
  pub flags : ℕ
  pub outside : ℕ

-- The block in some clock: the instruction memory, which no run changes, the state, and the synchronisers.
pub record Run : Type 0 where
  pub memory : List ℕ
  pub clock : ℕ
  pub state : BlockState
  pub synchroniser : Synchroniser

-- A run with the number of the clocks in it that were worked out singly, each by a call.
pub record Worked : Type 0 where
  pub run : Run
  pub calls : ℕ

-- the outside levels of a clock: its lines act on the pads of their own clock
abbrev pub outside_after : Due → ℕ → ℕ
outside_after d outside = written outside (d.pins, d.values)

-- the pads of a clock, by the levels and directions at its start
abbrev pub pads_in : Due → BlockState → ℕ
pads_in d b = pads_of b.levels b.directions (outside_after d b.outside)

-- what every machine sees in a clock: the flags are those at its start
abbrev pub view_of : (memory : List ℕ) → (seen : ℕ) → BlockState → View
view_of memory seen b = record { memory = memory; seen = seen; flags = record { up = b.flags } }

-- what the machines want in a clock, in order of their numbers
abbrev pub intents_of : View → Due → List (Option Slot) → List Intent
intents_of view d places = map (place_intent view d) places

-- all writes to levels, and to directions, in order of the machines' numbers
abbrev pub level_writes : List Intent → List (ℕ × ℕ)
level_writes intents = flat_map (λ i. two_writes i.level) intents

-- the same of directions
abbrev pub direction_writes : List Intent → List (ℕ × ℕ)
direction_writes intents = flat_map (λ i. two_writes i.direction) intents

-- these flags, and those that any of the machines lowers, or raises
abbrev pub with_all : ℕ → List ℕ → ℕ
with_all flags [] = flags
with_all flags (x ∷ rest) = with_all (bit_or flags x) rest

-- the flags that any of the machines lowers, or raises
abbrev pub any_of : List ℕ → ℕ
any_of flags = with_all 0 flags

-- The state after a clock. Every machine acts from the state at its start, in any order; then pins and flags are
-- merged, as all machines want them (RP2040 Datasheet, sections 3.2 and 3.5).
unfoldable pub stepped : (memory : List ℕ) → (seen : ℕ) → Due → BlockState → BlockState
stepped memory seen d b =
    let view = view_of memory seen b in
    let intents = intents_of view d b.machines in
    record {
      machines = map (place_after view d) b.machines;
      levels = merged b.levels (level_writes intents);
      directions = merged b.directions (direction_writes intents);
      flags = merged_flags b.flags (any_of (map (λ i. i.clears) intents)) (any_of (map (λ i. i.sets) intents));
      outside = outside_after d b.outside;
    }

-- what a machine sees of the pins in a clock with these pads
abbrev pub seen_over : (pad : ℕ) → Run → ℕ
seen_over pad r = seen_of r.synchroniser.bypass pad r.synchroniser.pad_2

-- the same with the block's own pads
abbrev pub seen_in : Due → Run → ℕ
seen_in d r = seen_over (pads_in d r.state) r

-- what the machines want in a clock of a run with these pads, in which the system does this
abbrev pub wanted_over : (pad : ℕ) → Due → Run → List Intent
wanted_over pad d r = intents_of (view_of r.memory (seen_over pad r) r.state) d r.state.machines

-- the same with the block's own pads
abbrev pub wanted_in : Due → Run → List Intent
wanted_in d r = wanted_over (pads_in d r.state) d r

-- whether anything is done at a machine's FIFOs in a clock of a run with these pads
abbrev pub uses_fifos_over : (pad : ℕ) → Due → Run → Bool
uses_fifos_over pad d r = list_any (place_uses_fifos (view_of r.memory (seen_over pad r) r.state) d) r.state.machines

-- the same with the block's own pads
abbrev pub uses_fifos_in : Due → Run → Bool
uses_fifos_in d r = uses_fifos_over (pads_in d r.state) d r

-- each pin has the bit that the last of some writes to it gives, and the old one where none does
abbrev pub TakesLastWrites : (old new : ℕ) → List (ℕ × ℕ) → Type 0
TakesLastWrites old new writes = (p : ℕ) → p < 32 → bit_at new p ≡ last_of p (bit_at old p) writes

-- the run one clock on, with these pads, in which the system does this
abbrev pub next_over : (pad : ℕ) → Due → Run → Run
next_over pad d r = record {
  memory = r.memory;
  clock = r.clock + 1;
  state = stepped r.memory (seen_over pad r) d r.state;
  synchroniser = pads.stepped pad r.synchroniser;
}

-- the same with the block's own pads
unfoldable pub next : Due → Run → Run
next d r = next_over (pads_in d r.state) d r

-- a machine's place at the start
abbrev pub first_place : Setup → ℕ → Option Slot
first_place s id = option_map first_slot (slice_index_or s.machines id None)

-- the state at the start: flags are down (choice of this profile)
abbrev pub first_state : Setup → BlockState
first_state s = record {
  machines = first_place s 0 ∷ first_place s 1 ∷ first_place s 2 ∷ first_place s 3 ∷ [];
  levels = s.level;
  directions = s.out;
  flags = 0;
  outside = s.high;
}

-- clock 0, before which these were always the pads
abbrev pub first_run_over : (pad : ℕ) → Setup → Run
first_run_over pad s = record {
  memory = s.memory;
  clock = 0;
  state = first_state s;
  synchroniser = first_synchroniser pad s.bypass;
}

-- the same with the pads of the setup (choice of this profile)
abbrev pub first_run : Setup → Run
first_run s = first_run_over (pads_of s.level s.out s.high) s

-- the run some clocks on, where the system does this in each
unfoldable pub run_from : Run → (ℕ → Due) → ℕ → Run
run_from start host zero = start
run_from start host (suc c) = next (host c) (run_from start host c)

-- the run of a setup in each clock
abbrev pub run_at : Setup → (ℕ → Due) → ℕ → Run
run_at s host clock = run_from (first_run s) host clock
