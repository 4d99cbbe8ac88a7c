-- How a tick of a machine goes on along the rows of a table.
--   InAges           a number is one of the ages, or of a span without a greatest bound at least the least of them
--   writes_to        a tick's writes to the watched signal
--   level_after      a pin's level after writes, or its direction
--   older_by         an age after a tick
--   works            a machine works at the instruction in memory at PC
--   closes, opens    an event comes in a tick
--   IsAged           what comes of an open age in a tick
--   kept_after       the last instruction left X and Y as the span assumes
--   IsFollowed       what comes of a tick
use Rattle.std.specs.Prelude.{◌≡◌, ℕ, ◌+◌, ◌≤◌, ◌⊎◌, Bool, true, false, not, ◌&&◌, if◌then◌else◌, Option, Some, None, is_some, List, [], fold, unwrap_or}
use Rattle.pin_matrix.specs.Assumptions.{keeps}
use Rattle.pin_matrix.specs.declared.machine.MachineSetup.{MachineSetup}
use Rattle.pin_matrix.specs.declared.setup.Setup.{Setup}
use Rattle.pin_matrix.specs.declared.span.PinSignal.{PinSignal}
use Rattle.pin_matrix.specs.declared.span.PinSignal.TheVariants.{Level, Direction}
use Rattle.pin_matrix.specs.declared.span.Span.{Span}
use Rattle.sm_registers.specs.declared.intent.Intent.{Intent}
use Rattle.sm_registers.specs.declared.intent.Kind.{Kind}
use Rattle.sm_registers.specs.declared.intent.Kind.TheVariants.{Off, First, Late, Delay}
use Rattle.sm_registers.specs.declared.registers.Registers.{Registers}
use Rattle.span_step.specs.declared.ages.Ages.{Ages}
use Rattle.span_step.specs.declared.ages.Ages.TheVariants.{Empty, Between}
use Rattle.span_step.specs.Contexts.{Context}
use Rattle.span_step.specs.Outcomes.{level_at}
use Rattle.span_step.specs.Courses.{is_edge}
use Rattle.span_step.specs.Steps.{bounds_of, is_bounded, is_event, is_named}
use Rattle.span_ticks.specs.UnderWay.{Watch, IsUnderWay, flow_of}

-- A number is one of the ages. Of a span without a greatest bound it is at least the least of them: a wait at an address that
-- the span doesn't name counts, and leaves the ages.
abbrev pub InAges : (bounded : Bool) → ℕ → Ages → Type 0
InAges bounded n Empty = ⊥
InAges bounded n (Between lo hi) = (lo ≤ n) × (bounded ≡ true → n ≤ hi)

-- which of a tick's writes are to the watched signal: those to levels, or to directions
abbrev pub writes_to : Option PinSignal → Intent → List (ℕ × ℕ)
writes_to None i = []
writes_to (Some Level) i = i.level
writes_to (Some Direction) i = i.direction

-- a pin's level after writes, of which a later one replaces an earlier one; and whether it is out after writes to directions
abbrev pub level_after : ℕ → List (ℕ × ℕ) → Bool → Bool
level_after p writes level = fold (λ old w. unwrap_or (level_at p w) old) level writes

-- a tick of an instruction that stalled before
abbrev pub is_late : Kind → Bool
is_late Off = false
is_late First = false
is_late Late = true
is_late Delay = false

-- an age after a tick at an address: one more, unless the tick is late and the span leaves out stalls there
abbrev pub older_by : Span → (address : ℕ) → Kind → ℕ → ℕ
older_by sp address kind n = n + (if is_late kind && is_named sp address then 0 else 1)

-- A machine works in a clock at the instruction in memory at PC: it has the instruction's first tick or a late one. A tick of a
-- delay is none of these, nor a tick of a pending word.
abbrev pub works : Kind → (pending : Option ℕ) → Bool
works Off pending = false
works First pending = not (is_some pending)
works Late pending = not (is_some pending)
works Delay pending = false

-- the instruction finishes in a tick in which the machine works at it, unless it stalls
abbrev pub finishes : (works stalled : Bool) → Bool
finishes works stalled = works && not stalled

-- the span's to-event comes in a tick at an address, between two watches
abbrev pub closes : Span → (address : ℕ) → Intent → (before after : Watch) → Bool
closes sp address i before after =
    is_event sp.to_signal sp.to_at address (is_edge sp.to_rise before.to after.to) (works i.kind None) (finishes (works i.kind None) i.stalled)

-- the span's from-event comes so
abbrev pub opens : Span → (address : ℕ) → Intent → (before after : Watch) → Bool
opens sp address i before after =
    is_event sp.from_signal sp.from_at address (is_edge sp.from_rise before.from after.from) (works i.kind None) (finishes (works i.kind None) i.stalled)

-- What comes of an open age in a tick at an address, by whether the to-event comes in it. It stays within the span's bounds in
-- ticks: the greatest in any case, if there is one, and the least where the to-event comes. Where it doesn't come, the age is
-- among those after the tick. Where there is a greatest bound a late tick is at an address that the span names.
pub record IsAged (s : MachineSetup) (sp : Span) (address : ℕ) (kind : Kind) (closes : Bool) (after : Watch) (n : ℕ) : Type 0 where
  pub most : is_bounded sp ≡ true → older_by sp address kind n ≤ (bounds_of sp s).1
  pub least : closes ≡ true → (bounds_of sp s).0 ≤ older_by sp address kind n
  pub stays : closes ≡ false → InAges (is_bounded sp) (older_by sp address kind n) after.ages
  pub named : is_bounded sp ≡ true → is_late kind ≡ true → is_named sp address ≡ true

-- the last instruction that finished left X and Y as the span assumes, after a tick at an address
abbrev pub kept_after : Span → (kept : Bool) → (address : ℕ) → Registers × Intent → Bool
kept_after sp kept address tick =
    if finishes (works tick.1.kind None) tick.1.stalled then keeps sp.assume address tick.0.x tick.0.y else kept

-- What comes of a tick at an address, which leaves these registers and this intent: some watch after it, with which the machine
-- is under way again, unless the last instruction left X or Y otherwise than the span assumes and its delay is over. What is
-- watched of the pins is as the tick writes it; each open age is as `IsAged` says, unless the machine was excused before the
-- tick, and a from-event adds the age 0.
pub record IsFollowed (u : Setup) (sp : Span) (rows : Context → Option Ages) (s : MachineSetup) (kept : Bool) (address : ℕ) (excused : Bool)
    (before : Watch) (tick : Registers × Intent) : Type 0 where
  pub after : Watch
  pub under_way : (kept_after sp kept address tick ≡ true) ⊎ (tick.0.delay ≡ 0 → ⊥)
      → IsUnderWay u sp rows s (kept_after sp kept address tick) (flow_of tick.0) after
  pub from : after.from ≡ level_after sp.from_pin (writes_to sp.from_signal tick.1) before.from
  pub to : after.to ≡ level_after sp.to_pin (writes_to sp.to_signal tick.1) before.to
  pub ages : excused ≡ false → (n : ℕ) → InAges (is_bounded sp) n before.ages
      → IsAged s sp address tick.1.kind (closes sp address tick.1 before after) after n
  pub fresh : opens sp address tick.1 before after ≡ true → InAges (is_bounded sp) 0 after.ages
