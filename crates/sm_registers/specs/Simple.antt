-- Simple ticks, which are most of what a busy machine does. None of them wants anything of FIFOs and flags, and
-- none begins or ends a stall.
--   has_no_wish    an act that never waits, and wants nothing of FIFOs and flags under any setup
--   never_waits    the same without autopull: OUT, too
--   begins_anew    the next tick begins an instruction from memory
--   is_ready       the same on a machine without autopull
--   is_simple      the next tick is simple
--   MakesTick      a machine made it, and wants nothing but pins
--   is_done, leaves_ready   what came of one that was tried
use Rattle.std.specs.Prelude.{◌≡◌, ◌==◌, nat_lt, Bool, true, false, not, ◌&&◌, is_some, if◌then◌else◌}
use Rattle.pio_encode.specs.declared.act.Act.{Act}
use Rattle.pio_encode.specs.declared.act.Act.TheVariants.{Jmp, Out, Mov, Set, Nothing}
use Rattle.pio_encode.specs.Word.{reading_of}
use Rattle.pin_matrix.specs.declared.machine.MachineSetup.{MachineSetup}
use Rattle.sm_registers.specs.declared.registers.Registers.{Registers}
use Rattle.sm_registers.specs.View.{View}
use Rattle.sm_registers.specs.declared.outputs.Outputs.{Outputs}
use Rattle.sm_registers.specs.declared.simple.Tried.{Tried}
use Rattle.sm_registers.specs.declared.simple.Tried.TheVariants.{NotSimple, DoneReady}
use Rattle.sm_registers.specs.Idling.{is_unmet}
use Rattle.sm_registers.specs.Intents.{no_wants, wants_of, written_by}
use Rattle.sm_registers.specs.State.{MachineState, tick_in}
use Rattle.sm_registers.specs.Tick.{current_word}

-- it has all its effects in its first tick, and none of them is at a FIFO or a flag (RP2040 Datasheet, sections 3.4.2, 3.4.8, 3.4.10)
abbrev pub has_no_wish : Act → Bool
has_no_wish (Jmp condition address) = true
has_no_wish (Mov destination operation source) = true
has_no_wish (Set destination value) = true
has_no_wish Nothing = true
has_no_wish act = false

-- the same without autopull, where OUT never waits either (section 3.4.5)
abbrev pub never_waits : Act → Bool
never_waits (Out destination count) = true
never_waits act = has_no_wish act

-- no delay is left, no stall goes on, and no word is pending
abbrev pub begins_anew : Registers → Bool
begins_anew r = (r.delay == 0) && (not r.begun && not (is_some r.pending))

-- autopull, which may refill the OSR in any tick, is off
abbrev pub is_ready : MachineSetup → Registers → Bool
is_ready s r = not s.autopull && begins_anew r

-- Autopull is off, and the tick only counts a delay; or a WAIT that stalled before only waits once more; or it is the only tick of an
-- instruction from memory that never waits.
abbrev pub is_simple : MachineSetup → View → Registers → Bool
is_simple s v r = let act = (reading_of (current_word v r) s.side_rule).act in
    if s.autopull then false else
    if nat_lt 0 r.delay then true else
    if r.begun then is_unmet act s v else
    not (is_some r.pending) && never_waits act

-- A machine made a tick that wants nothing but pins, which are written over those of the machines before it.
pub record MakesTick (v : View) (m after : MachineState) (o put : Outputs) : Type 0 where
  pub state : after ≡ record m { registers = (tick_in v m).0 }
  pub outputs : put ≡ written_by o (tick_in v m).1
  pub wants : wants_of (tick_in v m).1 ≡ no_wants

-- it was done
abbrev pub is_done : Tried → Bool
is_done NotSimple = false
is_done tried = true

-- it was done, and the next one is ready
abbrev pub leaves_ready : Tried → Bool
leaves_ready DoneReady = true
leaves_ready tried = false
