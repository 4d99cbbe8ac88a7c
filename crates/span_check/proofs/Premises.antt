-- What the laws of the crates below say, as one premise of this crate's lemmas.
use Rattle.std.proofs.Common.{◌≡◌, ◌==◌, ℕ, suc, ◌+◌, ◌<◌, ◌≤◌, ◌↔◌, Bool, true, false, IsTrue, Option, Some, None, List, slice_index_or}
use Rattle.std.specs.Int.{bit_at}
use Rattle.std.specs.List.{Contains}
use Rattle.clock_divider.specs.Ticks.{IsTickClock, is_tick}
use Rattle.pin_matrix.specs.Pins.{last_of}
use Rattle.pin_matrix.specs.declared.assume.Follow.{Follow}
use Rattle.pin_matrix.specs.declared.machine.MachineSetup.{MachineSetup}
use Rattle.pin_matrix.specs.declared.setup.Setup.{Setup}
use Rattle.pin_matrix.specs.declared.span.PinSignal.TheVariants.{Level, Direction}
use Rattle.pin_matrix.specs.declared.span.Span.{Span}
use Rattle.sm_registers.specs.declared.registers.Registers.{Registers}
use Rattle.sm_registers.specs.View.{View}
use Rattle.sm_registers.specs.Queues.{Queues}
use Rattle.sm_registers.specs.State.{first_registers}
use Rattle.sm_registers.specs.Tick.{tick_of}
use Rattle.dreq_pacing.specs.declared.due.Due.{Due}
use Rattle.dreq_pacing.specs.declared.line.Line.{Line}
use Rattle.block_core.specs.Slots.{place_after}
use Rattle.sm_registers.specs.Intents.{two_writes}
use Rattle.block_core.specs.Block.{BlockState, Run, first_state, first_place, run_from, view_of}
use Rattle.block_core.specs.Following.{Follows, place_at, intent_in, OthersLeave}
use Rattle.block_core.specs.Hosted.{hosted_at, host_of}
use Rattle.span_step.specs.declared.ages.Ages.{Ages}
use Rattle.span_step.specs.declared.ages.Ages.TheVariants.{Empty}
use Rattle.span_step.specs.Contexts.{Context, is_placed}
use Rattle.span_step.specs.Courses.{start}
use Rattle.span_step.specs.Steps.{bounds_of, is_bounded, is_named}
use Rattle.span_bounds.specs.declared.entry.Entry.TheVariants.{Present}
use Rattle.span_bounds.specs.declared.row.Row.{Row}
use Rattle.span_bounds.specs.Numbers.{number_of}
use Rattle.span_bounds.specs.Tables.{entry_at, IsTable}
use Rattle.span_ticks.specs.Rows.{IsInRow, IsSoundTable}
use Rattle.span_ticks.specs.UnderWay.{Watch, IsContextOf, IsUnderWay, flow_of, is_excused_in}
use Rattle.span_ticks.specs.Following.{InAges, level_after, IsFollowed}

pub record Laws : Type 0 where
  -- of span_ticks: a tick follows the table, open ages have room, a start is under way, and levels are last writes
  pub ticks : (u : Setup) (sp : Span) (rows : Context → Option Ages) (s : MachineSetup) (v : View) (q : Queues) (r : Registers) (kept : Bool) (w : Watch)
      → slice_index_or u.machines sp.machine None ≡ Some s → IsSoundTable u sp rows → v.memory ≡ u.memory
      → IsUnderWay u sp rows s kept (flow_of r) w → IsFollowed u sp rows s kept r.pc (is_excused_in sp (flow_of r)) w (tick_of s v q r)
  pub room : (u : Setup) (sp : Span) (rows : Context → Option Ages) (s : MachineSetup) (r : Registers) (kept : Bool) (w : Watch)
      → slice_index_or u.machines sp.machine None ≡ Some s → IsSoundTable u sp rows → is_bounded sp ≡ true → ((address : ℕ) → is_named sp address ≡ false)
      → is_excused_in sp (flow_of r) ≡ false → IsUnderWay u sp rows s kept (flow_of r) w → (n : ℕ) → InAges (is_bounded sp) n w.ages → n + 1 ≤ (bounds_of sp s).1
  pub begins : (u : Setup) (sp : Span) (rows : Context → Option Ages) (s : MachineSetup) (k : Context)
      → slice_index_or u.machines sp.machine None ≡ Some s → IsSoundTable u sp rows → IsContextOf sp k (flow_of (first_registers s))
      → IsInRow Empty (rows k) → IsUnderWay u sp rows s true (flow_of (first_registers s)) (start false k Empty)
  pub levels : (p : ℕ) (writes : List (ℕ × ℕ)) (old : ℕ) → level_after p writes (old == 1) ≡ (last_of p old writes == 1)
  -- of span_bounds: each entry is that of a row
  pub entries : (d : Follow) (rows : List Row) (k : Context) (a : Ages) → IsTable d rows → is_placed d k.address k.x k.y ≡ true
      → entry_at d rows (number_of d k) ≡ Present a → Contains rows (record { context = k; ages = a })
  -- of block_core: each place goes its own way, and a pin of one machine has what it writes
  pub places_start : (s : Setup) (id : ℕ) → id < 4 → place_at (first_state s) id ≡ first_place s id
  pub places_go_on : (memory : List ℕ) (seen : ℕ → ℕ) (host : ℕ → Due) (states : ℕ → BlockState) → Follows memory seen host states
      → (clock id : ℕ) → place_at (states (suc clock)) id ≡ place_after (view_of memory (seen clock) (states clock)) (host clock) (place_at (states clock) id)
  pub own_levels : (s : Setup) (memory : List ℕ) (seen : ℕ → ℕ) (host : ℕ → Due) (states : ℕ → BlockState) → states 0 ≡ first_state s
      → Follows memory seen host states → (id p : ℕ) → p < 32 → OthersLeave Level id p s.machines → (clock : ℕ)
      → bit_at (states (suc clock)).levels p
      ≡ last_of p (bit_at (states clock).levels p) (two_writes (intent_in memory (seen clock) (host clock) (states clock) id).level)
  pub own_directions : (s : Setup) (memory : List ℕ) (seen : ℕ → ℕ) (host : ℕ → Due) (states : ℕ → BlockState) → states 0 ≡ first_state s
      → Follows memory seen host states → (id p : ℕ) → p < 32 → OthersLeave Direction id p s.machines → (clock : ℕ)
      → bit_at (states (suc clock)).directions p
      ≡ last_of p (bit_at (states clock).directions p) (two_writes (intent_in memory (seen clock) (host clock) (states clock) id).direction)
  -- and its run with a stimulus
  pub stimulus : (start : Run) (lines : List Line) (clock : ℕ) → (hosted_at start lines clock).run ≡ run_from start (host_of start lines) clock
  pub memory : (start : Run) (host : ℕ → Due) (clock : ℕ) → (run_from start host clock).memory ≡ start.memory
  -- of clock_divider: what the test for a tick means
  pub tick_test : (restarted period clock : ℕ) → 0 < period → IsTrue (is_tick restarted period clock) ↔ (IsTickClock restarted period clock)
