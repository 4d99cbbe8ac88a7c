-- What a span looks at in one clock of a run: edges, as a logic analyser at the block's outputs would see them, the instructions that
-- make them or finish, the ticks of its machine, and how it stands.
--   Mark             what it looks at
--   counts, strays   which ticks count, and which must not come while the span is open
--   excused_at       a machine stands so that the span doesn't speak of the from-events before
--   mark_of          the mark of a clock
use Rattle.std.specs.Prelude.{ℕ, ◌==◌, Bool, true, false, not, ◌&&◌, ◌||◌, Option, Some, None, List, slice_index_or}
use Rattle.std.specs.List.{list_any}
use Rattle.pin_matrix.specs.Spans.{signal_bits}
use Rattle.pin_matrix.specs.declared.span.PinSignal.{PinSignal}
use Rattle.pin_matrix.specs.declared.span.Span.{Span}
use Rattle.sm_registers.specs.declared.intent.Kind.{Kind}
use Rattle.sm_registers.specs.declared.intent.Kind.TheVariants.{Off, First, Late, Delay}
use Rattle.dreq_pacing.specs.declared.due.Due.{Due}
use Rattle.block_core.specs.Slots.{Slot}
use Rattle.block_core.specs.Block.{BlockState}
use Rattle.block_core.specs.Edges.{has_edge}
use Rattle.block_core.specs.Following.{place_at, intent_in}
use Rattle.pin_matrix.specs.Assumptions.{keeps}
use Rattle.span_step.specs.Steps.{is_event}
use Rattle.span_ticks.specs.Following.{finishes, works}
use Rattle.span_ticks.specs.UnderWay.{flow_of, is_excused_in}

-- What a span looks at in a clock: whether its from-event and its to-event come, whether the machine has a tick that counts,
-- whether it has a late tick at an address that the span doesn't name, whether a line disables or restarts it, and whether it
-- stands so at the clock's start that the from-events before are excused; whether an instruction finishes and leaves X or Y otherwise
-- than the span assumes, and whether no delay is left after the clock.
pub record Mark : Type 0 where
  pub from : Bool
  pub to : Bool
  pub counts : Bool
  pub strays : Bool
  pub breaks : Bool
  pub excused : Bool
  pub misses : Bool
  pub rested : Bool

-- a tick that counts is any but a late one at an address that the span names
abbrev pub counts : Kind → (named : Bool) → Bool
counts Off named = false
counts First named = true
counts Late named = not named
counts Delay named = true

-- a late tick at an address that the span doesn't name
abbrev pub strays : Kind → (named : Bool) → Bool
strays Off named = false
strays First named = false
strays Late named = not named
strays Delay named = false

-- the span leaves out stalls at this address
abbrev pub names : Span → ℕ → Bool
names sp address = list_any (λ a. a == address) sp.stalls

-- PC of a place at the start of a clock
abbrev pub pc_at : Option Slot → ℕ
pc_at None = 0
pc_at (Some m) = m.machine.registers.pc

-- the word pending at a place at the start of a clock
abbrev pub pending_at : Option Slot → Option ℕ
pending_at None = None
pending_at (Some m) = m.machine.registers.pending

-- The machine at a place waits at the start of a clock, or comes to an instruction next, so that the span doesn't speak of the
-- from-events before. Its state there says so and not its tick, of which a clock may have none.
abbrev pub excused_at : Span → Option Slot → Bool
excused_at sp None = false
excused_at sp (Some m) = is_excused_in sp (flow_of m.machine.registers)

-- what a place has in X and Y is as the span assumes after the instruction at an address
abbrev pub keeps_at : Span → (address : ℕ) → Option Slot → Bool
keeps_at sp address None = true
keeps_at sp address (Some m) = keeps sp.assume address m.machine.registers.x m.machine.registers.y

-- no delay is left at a place
abbrev pub is_rested : Option Slot → Bool
is_rested None = true
is_rested (Some m) = m.machine.registers.delay == 0

-- an edge of a pin between two states: of its level, or of its direction; none where no signal is watched
abbrev pub has_signal_edge : Option PinSignal → (pin : ℕ) → (rise : Bool) → (before after : BlockState) → Bool
has_signal_edge signal pin rise before after =
    has_edge pin rise (signal_bits signal before.levels before.directions) (signal_bits signal after.levels after.directions)

-- a line of the clock disables the machine with this number, or restarts its divider
abbrev pub is_broken : Due → ℕ → Bool
is_broken d id = slice_index_or d.disable id false || slice_index_or d.restart id false

-- The mark of a clock between these two states, in which the machines see this and the system does this. Where the machine is, and
-- whether a word is pending there, is as at the clock's start.
unfoldable pub mark_of : Span → (memory : List ℕ) → (seen : ℕ) → Due → (before after : BlockState) → Mark
mark_of sp memory seen d before after =
    let tick = intent_in memory seen d before sp.machine in
    let address = pc_at (place_at before sp.machine) in
    let at_work = works tick.kind (pending_at (place_at before sp.machine)) in
    let ends = finishes at_work tick.stalled in
    let named = names sp address in
    record {
      from = is_event sp.from_signal sp.from_at address (has_signal_edge sp.from_signal sp.from_pin sp.from_rise before after) at_work ends;
      to = is_event sp.to_signal sp.to_at address (has_signal_edge sp.to_signal sp.to_pin sp.to_rise before after) at_work ends;
      counts = counts tick.kind named;
      strays = strays tick.kind named;
      breaks = is_broken d sp.machine;
      excused = excused_at sp (place_at before sp.machine);
      misses = ends && not (keeps_at sp address (place_at after sp.machine));
      rested = is_rested (place_at after sp.machine);
    }
