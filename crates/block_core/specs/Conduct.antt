-- What the machines of a block did in the last clock of note, and how they stood at its start (which clocks are of note is a choice
-- of this profile).
--   machine_conduct   what one machine does in a clock
--   rests_in          the clock in which the last tick of its delay comes, as the clock before says it
--   is_noted          whether a clock is of note
--   conduct_in        what is told of a clock
--   conduct_after     what is told after a clock: of it where it is of note, else what was told before
--   no_conduct        before any clock
--   conduct_at        after a clock of a run with a stimulus
--   conducts          after each of the first clocks
--   Told              a block with what is told of it
--   Standing          what a machine's state and a clock's lines say before the clock: what its own words are made of
--   After             what its state says after the clock
use Rattle.std.specs.Prelude.{ℕ, zero, suc, ◌+◌, ◌-◌, ◌*◌, ◌/◌, ◌==◌, max, Bool, false, not, ◌&&◌, ◌||◌, Option, Some, None, is_some, option_map, List, [], ◌∷◌, ◌++◌, map, if◌then◌else◌, slice_index_or}
use Rattle.std.specs.List.{list_any}
use Rattle.clock_divider.specs.Timing.{Timing}
use Rattle.sm_registers.specs.declared.registers.Registers.{Registers}
use Rattle.sm_registers.specs.Idling.{begins, finishes}
use Rattle.sm_registers.specs.View.{View}
use Rattle.dreq_pacing.specs.declared.due.Due.{Due}
use Rattle.dreq_pacing.specs.declared.line.Line.{Line}
use Rattle.block_core.specs.declared.conduct.After.{After}
use Rattle.block_core.specs.declared.conduct.Conduct.{Conduct}
use Rattle.block_core.specs.declared.conduct.MachineConduct.{MachineConduct}
use Rattle.block_core.specs.declared.conduct.Standing.{Standing}
use Rattle.block_core.specs.Block.{BlockState, Run, Worked, next, seen_in, view_of}
use Rattle.block_core.specs.Hosted.{hosted_at, host_of}
use Rattle.block_core.specs.Inside.{is_of_an_instruction}
use Rattle.block_core.specs.Slots.{Slot, has_tick, lined, slot_after, slot_intent}

-- The machine comes to the instruction in memory at its PC next: no delay is left, no word is pending, and it hasn't begun.
abbrev pub comes_next : Registers → Bool
comes_next r = (r.delay == 0) && (not (is_some r.pending) && not r.begun)

-- a line of the clock disables the machine with this number, or restarts its divider
abbrev pub is_broken_by : Due → ℕ → Bool
is_broken_by d id = slice_index_or d.disable id false || slice_index_or d.restart id false

-- a line of the clock acts on it: it enables it, or one of these
abbrev pub is_lined_by : Due → ℕ → Bool
is_lined_by d id = is_broken_by d id || slice_index_or d.enable id false

-- a divider's period, which is at least a clock
abbrev pub period_in : Timing → ℕ
period_in t = max 256 t.period

-- the number of its next tick, from its present clock on, where that of its restart is tick 0
unfoldable pub next_tick : Timing → ℕ
next_tick t = ((t.clock - t.restarted) * 256 + (period_in t - 1)) / period_in t

-- the clock of the tick that comes so many ticks later (RP2040 Datasheet, section 3.5.5)
unfoldable pub clock_of_tick : Timing → (later : ℕ) → ℕ
clock_of_tick t later = t.restarted + (next_tick t + later) * period_in t / 256

-- The clock in which the last tick of a machine's delay comes if no line acts on it, where it stands so after this clock: this clock
-- itself where no delay is left, and none while it is disabled (section 3.4.5: a delay counts its ticks).
unfoldable pub rests_in : (clock : ℕ) → Slot → Option ℕ
rests_in clock s = let delay = s.machine.registers.delay in
    if delay == 0 then Some clock else if s.enabled then Some (clock_of_tick s.timing (delay - 1)) else None

-- What one machine does in a clock, how it stands at the clock's start (PC, whether it waits there, and whether it comes to the
-- instruction there next), and what it is after it (X, Y, and the end of its delay). It works at the address if the clock has a
-- tick of the instruction in memory there, and not of a pending word or a delay (RP2040 Datasheet, sections 3.4.5 and 3.5.7), and
-- finishes it where that tick doesn't stall.
unfoldable pub machine_conduct : (clock : ℕ) → View → Due → Slot → MachineConduct
machine_conduct clock v d s =
    let r = s.machine.registers in let i = slot_intent v d s in let after = slot_after v d s in record {
      pc = r.pc;
      waits = r.begun;
      comes = comes_next r;
      works = is_of_an_instruction i.kind && not (is_some r.pending);
      finishes = finishes i.kind i.stalled && not (is_some r.pending);
      breaks = is_broken_by d s.machine.setup.id;
      x = after.machine.registers.x;
      y = after.machine.registers.y;
      rests = rests_in clock after;
    }

-- a machine begins or finishes an instruction in the clock, also a pending word, or a line acts on it
abbrev pub is_machine_noted : View → Due → Option Slot → Bool
is_machine_noted v d None = false
is_machine_noted v d (Some s) = let i = slot_intent v d s in
    is_lined_by d s.machine.setup.id || (begins i.kind || finishes i.kind i.stalled)

-- a level or a direction differs between two states
abbrev pub has_new_pins : (before after : BlockState) → Bool
has_new_pins before after = not ((before.levels == after.levels) && (before.directions == after.directions))

-- A clock is of note in which this is so of some machine, or in which the level or the direction of a pin changes.
unfoldable pub is_noted : Due → Run → Bool
is_noted d r =
    list_any (is_machine_noted (view_of r.memory (seen_in d r) r.state) d) r.state.machines || has_new_pins r.state (next d r).state

-- What is told of a clock: its number, the pins after it, what each machine does in it, and what it is then.
unfoldable pub conduct_in : Due → Run → Conduct
conduct_in d r = record {
  clock = r.clock;
  level = (next d r).state.levels;
  direction = (next d r).state.directions;
  machines = map (option_map (machine_conduct r.clock (view_of r.memory (seen_in d r) r.state) d)) r.state.machines;
}

-- what is told after a clock, where this was told before it
abbrev pub conduct_after : Due → Run → Conduct → Conduct
conduct_after d r last = if is_noted d r then conduct_in d r else last

-- Before any clock nothing was done: the number is that of the clock that comes, and no machine is told of.
unfoldable pub no_conduct : Run → Conduct
no_conduct r = record {
  clock = r.clock;
  level = r.state.levels;
  direction = r.state.directions;
  machines = None ∷ None ∷ None ∷ None ∷ [];
}

-- what is told before a clock of a run with a stimulus
unfoldable pub conduct_before : Run → List Line → ℕ → Conduct
conduct_before start lines zero = no_conduct start
conduct_before start lines (suc n) = conduct_after (host_of start lines n) (hosted_at start lines n).run (conduct_before start lines n)

-- what is told after it
abbrev pub conduct_at : Run → List Line → ℕ → Conduct
conduct_at start lines clock = conduct_before start lines (suc clock)

-- after each of the first n clocks
unfoldable pub conducts : Run → List Line → ℕ → List Conduct
conducts start lines zero = []
conducts start lines (suc n) = conducts start lines n ++ conduct_at start lines n ∷ []

-- A block, and what is told of its last clock of note.
pub record Told : Type 0 where
  pub worked : Worked
  pub last : Conduct

-- how a machine stands before a clock with these lines; `acts` is a tick of an instruction, also of a pending word
unfoldable pub standing_in : Due → Slot → Standing
standing_in d s = let r = s.machine.registers in record {
  pc = r.pc;
  waits = r.begun;
  comes = comes_next r;
  pending = is_some r.pending;
  acts = has_tick (lined d s) && (r.delay == 0);
  breaks = is_broken_by d s.machine.setup.id;
  lined = is_lined_by d s.machine.setup.id;
}

-- what a machine is after this clock
unfoldable pub after_in : (clock : ℕ) → Slot → After
after_in clock s = let r = s.machine.registers in record {
  waits = r.begun;
  x = r.x;
  y = r.y;
  rests = rests_in clock s;
}

-- what it did in the clock, by how it stood before it and what it is after it
abbrev pub concluded : Standing → After → MachineConduct
concluded t after = record {
  pc = t.pc;
  waits = t.waits;
  comes = t.comes;
  works = t.acts && not t.pending;
  finishes = (t.acts && not after.waits) && not t.pending;
  breaks = t.breaks;
  x = after.x;
  y = after.y;
  rests = after.rests;
}

-- whether that is of note
abbrev pub is_standing_noted : Standing → (waits : Bool) → Bool
is_standing_noted t waits = t.lined || (t.acts && (not t.waits || not waits))

-- the same of a place before and after
abbrev pub concluded_place : Option Standing → Option After → Option MachineConduct
concluded_place (Some t) (Some after) = Some (concluded t after)
concluded_place before after = None

-- whether a place makes the clock one of note
abbrev pub is_place_noted : Option Standing → Option After → Bool
is_place_noted (Some t) (Some after) = is_standing_noted t after.waits
is_place_noted before after = false

-- the same of all places
abbrev pub concluded_places : List (Option Standing) → List (Option After) → List (Option MachineConduct)
concluded_places (t ∷ before) (u ∷ after) = concluded_place t u ∷ concluded_places before after
concluded_places before after = []

-- whether any of these does
abbrev pub are_places_noted : List (Option Standing) → List (Option After) → Bool
are_places_noted (t ∷ before) (u ∷ after) = is_place_noted t u || are_places_noted before after
are_places_noted before after = false

-- how all machines of a state stand
abbrev pub standings_in : Due → BlockState → List (Option Standing)
standings_in d b = map (option_map (standing_in d)) b.machines

-- what they are after this clock
abbrev pub afters_in : (clock : ℕ) → BlockState → List (Option After)
afters_in clock b = map (option_map (after_in clock)) b.machines

-- whether a clock was of note, by the pins and the machines before it and the state after it
abbrev pub is_noted_by : (clock level direction : ℕ) → (before : List (Option Standing)) → (after : BlockState) → Bool
is_noted_by clock level direction before after =
    are_places_noted before (afters_in clock after) || not ((level == after.levels) && (direction == after.directions))

-- what was done in it
abbrev pub conduct_by : (clock : ℕ) → (before : List (Option Standing)) → (after : BlockState) → Conduct
conduct_by clock before after = record {
  clock = clock;
  level = after.levels;
  direction = after.directions;
  machines = concluded_places before (afters_in clock after);
}
