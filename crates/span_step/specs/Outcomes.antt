-- What an instruction can do to a context when it finishes, apart from its side-set and from how long it takes.
--   ContextOutcome   where it goes, what is known of X and Y after it, and what it writes to the two pins
--   level_at         what a write of pins does to one pin
--   written_to       what a known value writes to the two pins
--   unknown_levels   what an unknown value may write to them
--   is_wild          an instruction after which the checker knows no address
--   may_stall        an instruction that may wait
--   taken            whether a JMP is taken, as far as it is known
--   outcomes         all that an instruction can do
use Rattle.std.specs.Prelude.{ℕ, ◌+◌, ◌-◌, ◌%◌, ◌^◌, ◌==◌, Bool, true, false, not, ◌&&◌, if◌then◌else◌, Option, Some, None, List, [], ◌∷◌, map, flat_map}
use Rattle.std.specs.Int.{bit_at}
use Rattle.pio_encode.specs.declared.act.Act.{Act}
use Rattle.pio_encode.specs.declared.act.Act.TheVariants.{Jmp, Wait, In, Out, Push, Pull, Mov, Irq, Set, Nothing}
use Rattle.pio_encode.specs.declared.act.Condition.{Condition}
use Rattle.pio_encode.specs.declared.act.Condition.TheVariants as condition
use Rattle.pio_encode.specs.declared.act.OutDestination.{OutDestination}
use Rattle.pio_encode.specs.declared.act.OutDestination.TheVariants as out_destination
use Rattle.pio_encode.specs.declared.act.MovDestination.{MovDestination}
use Rattle.pio_encode.specs.declared.act.MovDestination.TheVariants as mov_destination
use Rattle.pio_encode.specs.declared.act.MovOperation.{MovOperation}
use Rattle.pio_encode.specs.declared.act.MovOperation.TheVariants as mov_operation
use Rattle.pio_encode.specs.declared.act.MovSource.{MovSource}
use Rattle.pio_encode.specs.declared.act.MovSource.TheVariants as mov_source
use Rattle.pio_encode.specs.declared.act.SetDestination.{SetDestination}
use Rattle.pio_encode.specs.declared.act.SetDestination.TheVariants as set_destination
use Rattle.pin_matrix.specs.Pins.{writes_of}
use Rattle.pin_matrix.specs.Spans.{is_signal}
use Rattle.pin_matrix.specs.declared.machine.MachineSetup.{MachineSetup}
use Rattle.pin_matrix.specs.declared.mapping.Mapping.{Mapping}
use Rattle.pin_matrix.specs.declared.span.PinSignal.{PinSignal}
use Rattle.pin_matrix.specs.declared.span.PinSignal.TheVariants.{Level, Direction}
use Rattle.pin_matrix.specs.declared.span.Span.{Span}
use Rattle.span_step.specs.declared.levels.Write.{Write}
use Rattle.span_step.specs.Contexts.{Context}

-- What an instruction does when it finishes: the address that it goes to, if it isn't the next one; what is known of X and Y
-- after it; and what it writes to the watched signals of the span's from-pin and to-pin, where it writes them.
pub record ContextOutcome : Type 0 where
  pub jump : Option ℕ
  pub x : Option ℕ
  pub y : Option ℕ
  pub from : Option Bool
  pub to : Option Bool

-- it goes on, and changes nothing that the checker knows
abbrev pub nothing_done : Context → ContextOutcome
nothing_done k = record { jump = None; x = k.x; y = k.y; from = None; to = None }

-- the level that a write gives a pin, if it holds the pin
abbrev pub level_at : ℕ → ℕ × ℕ → Option Bool
level_at p w = if bit_at w.0 p == 1 then Some (bit_at w.1 p == 1) else None

-- a mapping holds a pin: any value that goes to it writes the pin
abbrev pub holds : Mapping → ℕ → Bool
holds m p = bit_at (writes_of m 0).0 p == 1

-- what a write of one signal does to the watched signal of a pin: only a write of levels changes a level, and only a write of
-- directions a direction
abbrev pub signal_at : (written : PinSignal) → (watched : Option PinSignal) → ℕ → ℕ × ℕ → Option Bool
signal_at written watched p w = if is_signal written watched then level_at p w else None

-- what a value that goes to a mapping, as levels or as directions, writes to the from-pin and the to-pin
abbrev pub written_to : PinSignal → Mapping → ℕ → Span → Write
written_to signal m value sp = record {
  from = signal_at signal sp.from_signal sp.from_pin (writes_of m value);
  to = signal_at signal sp.to_signal sp.to_pin (writes_of m value);
}

-- a value that goes to a mapping, as levels or as directions, writes the watched signal of a pin
abbrev pub is_held : (written : PinSignal) → (watched : Option PinSignal) → Mapping → ℕ → Bool
is_held written watched m p = is_signal written watched && holds m p

-- an unknown value may leave what it writes either way, and writes nothing else
abbrev pub either_level : (held : Bool) → List (Option Bool)
either_level held = if held then Some false ∷ Some true ∷ [] else None ∷ []

-- both events are edges of one signal
abbrev pub has_one_signal : (from to : Option PinSignal) → Bool
has_one_signal None to = false
has_one_signal (Some from) to = is_signal from to

-- both events are edges of one signal of one pin
abbrev pub has_one_pin : Span → Bool
has_one_pin sp = sp.from_pin == sp.to_pin && has_one_signal sp.from_signal sp.to_signal

-- What an unknown value may write to the from-pin and the to-pin: each choice of both, or one and the same where both edges
-- are of one signal of one pin.
abbrev pub unknown_levels : PinSignal → Mapping → Span → List (Option Bool × Option Bool)
unknown_levels signal m sp =
    let from = either_level (is_held signal sp.from_signal m sp.from_pin) in
    let to = either_level (is_held signal sp.to_signal m sp.to_pin) in
    if has_one_pin sp then map (λ l. (l, l)) from else flat_map (λ f. map (λ t. (f, t)) to) from

-- OUT PINS, MOV PINS and OUT PINDIRS write the mapping of OUT, with a value that isn't known (RP2040 Datasheet, sections 3.4.5
-- and 3.4.8)
abbrev pub unknown_pins : PinSignal → MachineSetup → Span → Context → List ContextOutcome
unknown_pins signal s sp k = map (λ l. record (nothing_done k) { from = l.0; to = l.1 }) (unknown_levels signal s.out sp)

-- one less in 32 bits where that is known: nothing is known after a 0, which falls to 2^32 - 1
abbrev pub counted_down : Option ℕ → Option ℕ
counted_down None = None
counted_down (Some n) = if n == 0 then None else Some ((n + (2 ^ 32 - 1)) % 2 ^ 32)

-- whether a number is 0, where it is known
abbrev pub is_zero : Option ℕ → Option Bool
is_zero None = None
is_zero (Some n) = Some (n == 0)

-- whether a number isn't 0, where it is known
abbrev pub is_nonzero : Option ℕ → Option Bool
is_nonzero None = None
is_nonzero (Some n) = Some (not (n == 0))

-- whether two numbers differ, where both are known
abbrev pub differ : Option ℕ → Option ℕ → Option Bool
differ (Some m) (Some n) = Some (not (m == n))
differ _ _ = None

-- Whether a JMP is taken, where it is known: by X and Y before the count. The jump pin and the output count are not known.
abbrev pub taken : Condition → Context → Option Bool
taken condition.Always k = Some true
taken condition.XZero k = is_zero k.x
taken condition.XDecrement k = is_nonzero k.x
taken condition.YZero k = is_zero k.y
taken condition.YDecrement k = is_nonzero k.y
taken condition.XNotY k = differ k.x k.y
taken condition.Pin k = None
taken condition.OsrNotEmpty k = None

-- `x--` and `y--` count down, taken or not (section 3.4.2)
abbrev pub after_count : Condition → Context → ContextOutcome
after_count condition.Always k = nothing_done k
after_count condition.XZero k = nothing_done k
after_count condition.XDecrement k = record (nothing_done k) { x = counted_down k.x }
after_count condition.YZero k = nothing_done k
after_count condition.YDecrement k = record (nothing_done k) { y = counted_down k.y }
after_count condition.XNotY k = nothing_done k
after_count condition.Pin k = nothing_done k
after_count condition.OsrNotEmpty k = nothing_done k

-- a JMP that is known to be taken, or not, has one way; any other has both
abbrev pub ways : Option Bool → ℕ → ContextOutcome → List ContextOutcome
ways (Some true) address o = record o { jump = Some address } ∷ []
ways (Some false) address o = o ∷ []
ways None address o = record o { jump = Some address } ∷ o ∷ []

-- OUT: the bits aren't known; after OUT PC and OUT EXEC no address is (section 3.4.5)
abbrev pub out_outcomes : OutDestination → MachineSetup → Span → Context → List ContextOutcome
out_outcomes out_destination.Pins s sp k = unknown_pins Level s sp k
out_outcomes out_destination.X s sp k = record (nothing_done k) { x = None } ∷ []
out_outcomes out_destination.Y s sp k = record (nothing_done k) { y = None } ∷ []
out_outcomes out_destination.Null s sp k = nothing_done k ∷ []
out_outcomes out_destination.Pindirs s sp k = unknown_pins Direction s sp k
out_outcomes out_destination.Pc s sp k = []
out_outcomes out_destination.Isr s sp k = nothing_done k ∷ []
out_outcomes out_destination.Exec s sp k = []

-- what is known of the word that a MOV copies: X, Y or 0, as long as no operation changes it on its way (section 3.4.8)
abbrev pub copied : MovOperation → MovSource → Context → Option ℕ
copied mov_operation.Plain mov_source.X k = k.x
copied mov_operation.Plain mov_source.Y k = k.y
copied mov_operation.Plain mov_source.Null k = Some 0
copied _ _ k = None

-- MOV; after MOV PC and MOV EXEC no address is known (section 3.4.8)
abbrev pub mov_outcomes : MovDestination → Option ℕ → MachineSetup → Span → Context → List ContextOutcome
mov_outcomes mov_destination.Pins word s sp k = unknown_pins Level s sp k
mov_outcomes mov_destination.X word s sp k = record (nothing_done k) { x = word } ∷ []
mov_outcomes mov_destination.Y word s sp k = record (nothing_done k) { y = word } ∷ []
mov_outcomes mov_destination.Exec word s sp k = []
mov_outcomes mov_destination.Pc word s sp k = []
mov_outcomes mov_destination.Isr word s sp k = nothing_done k ∷ []
mov_outcomes mov_destination.Osr word s sp k = nothing_done k ∷ []

-- SET PINS and SET PINDIRS write the mapping of SET with a known value (section 3.4.10)
abbrev pub set_pins : PinSignal → ℕ → MachineSetup → Span → Context → ContextOutcome
set_pins signal value s sp k = let write = written_to signal s.set value sp in
    record (nothing_done k) { from = write.from; to = write.to }

-- SET: the value is known (section 3.4.10)
abbrev pub set_outcomes : SetDestination → ℕ → MachineSetup → Span → Context → List ContextOutcome
set_outcomes set_destination.Pins value s sp k = set_pins Level value s sp k ∷ []
set_outcomes set_destination.X value s sp k = record (nothing_done k) { x = Some value } ∷ []
set_outcomes set_destination.Y value s sp k = record (nothing_done k) { y = Some value } ∷ []
set_outcomes set_destination.Pindirs value s sp k = set_pins Direction value s sp k ∷ []

-- All that an instruction can do to a context, by its act: none where no address is known after it. IN, PUSH, PULL, WAIT and
-- IRQ change neither X, nor Y, nor a pin.
unfoldable pub outcomes : Act → MachineSetup → Span → Context → List ContextOutcome
outcomes (Jmp c address) s sp k = ways (taken c k) address (after_count c k)
outcomes (Wait polarity source index) s sp k = nothing_done k ∷ []
outcomes (In source count) s sp k = nothing_done k ∷ []
outcomes (Out destination count) s sp k = out_outcomes destination s sp k
outcomes (Push if_full block) s sp k = nothing_done k ∷ []
outcomes (Pull if_empty block) s sp k = nothing_done k ∷ []
outcomes (Mov destination operation source) s sp k = mov_outcomes destination (copied operation source k) s sp k
outcomes (Irq clear waits index) s sp k = nothing_done k ∷ []
outcomes (Set destination value) s sp k = set_outcomes destination value s sp k
outcomes Nothing s sp k = nothing_done k ∷ []

-- an OUT to this destination leaves no known address
abbrev pub is_wild_out : OutDestination → Bool
is_wild_out out_destination.Pc = true
is_wild_out out_destination.Exec = true
is_wild_out _ = false

-- a MOV to this destination leaves no known address
abbrev pub is_wild_mov : MovDestination → Bool
is_wild_mov mov_destination.Pc = true
is_wild_mov mov_destination.Exec = true
is_wild_mov _ = false

-- OUT PC, OUT EXEC, MOV PC and MOV EXEC go where their data says, which isn't known
unfoldable pub is_wild : Act → Bool
is_wild (Jmp c address) = false
is_wild (Wait polarity source index) = false
is_wild (In source count) = false
is_wild (Out destination count) = is_wild_out destination
is_wild (Push if_full block) = false
is_wild (Pull if_empty block) = false
is_wild (Mov destination operation source) = is_wild_mov destination
is_wild (Irq clear waits index) = false
is_wild (Set destination value) = false
is_wild Nothing = false

-- Which instructions may stall: any WAIT, a blocking PUSH or PULL, an IRQ that raises its flag and waits, IN with autopush and
-- OUT with autopull (sections 3.4.3 to 3.4.9 and 3.5.4).
unfoldable pub may_stall : Act → MachineSetup → Bool
may_stall (Jmp c address) s = false
may_stall (Wait polarity source index) s = true
may_stall (In source count) s = s.autopush
may_stall (Out destination count) s = s.autopull
may_stall (Push if_full block) s = block
may_stall (Pull if_empty block) s = block
may_stall (Mov destination operation source) s = false
may_stall (Irq clear waits index) s = not clear && waits
may_stall (Set destination value) s = false
may_stall Nothing s = false
