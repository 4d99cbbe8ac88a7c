-- Which machines may write the pins of a span.
--   holds            a mapping holds a pin
--   writes_pin       a mapping of a machine writes what is watched of a pin: its level, or its direction
--   shares           a machine of this number may write a pin of the span, which isn't its own
--   IsUnshared       no other machine does
--   IsLeastSharer    the least other machine that does
use Rattle.std.specs.Prelude.{◌≡◌, ℕ, ◌<◌, ◌==◌, nat_lt, Bool, true, false, not, ◌&&◌, ◌||◌, Option, Some, None, List, slice_index_or}
use Rattle.pin_matrix.specs.Pins.{place_of}
use Rattle.pin_matrix.specs.Spans.{is_signal, side_signal}
use Rattle.pin_matrix.specs.declared.mapping.Mapping.{Mapping}
use Rattle.pin_matrix.specs.declared.machine.MachineSetup.{MachineSetup}
use Rattle.pin_matrix.specs.declared.setup.Setup.{Setup}
use Rattle.pin_matrix.specs.declared.span.PinSignal.{PinSignal}
use Rattle.pin_matrix.specs.declared.span.Span.{Span}

-- a mapping holds a pin: the pin's place is below the mapping's count
abbrev pub holds : Mapping → ℕ → Bool
holds m p = nat_lt (place_of m p) m.count

-- The mapping of OUT, of SET, or of side-set that writes the watched signal holds the pin (RP2040 Datasheet, section 3.5.6). Where
-- no signal is watched nothing is asked.
abbrev pub writes_pin : MachineSetup → Option PinSignal → ℕ → Bool
writes_pin s None p = false
writes_pin s (Some signal) p =
    holds s.out p || (holds s.set p || (is_signal (side_signal s) (Some signal) && holds s.side p))

-- what the span watches of its from-pin, or of its to-pin, is so written
abbrev pub writes_span : MachineSetup → Span → Bool
writes_span s sp = writes_pin s sp.from_signal sp.from_pin || writes_pin s sp.to_signal sp.to_pin

-- there is a machine here, and it may write a watched pin of the span
abbrev pub may_write : Option MachineSetup → Span → Bool
may_write None sp = false
may_write (Some s) sp = writes_span s sp

-- Of these machines, the one of this number isn't the span's own, it is configured, and one of its mappings writes what the span
-- watches of a pin.
unfoldable pub shares : List (Option MachineSetup) → Span → ℕ → Bool
shares machines sp m = not (m == sp.machine) && may_write (slice_index_or machines m None) sp

-- none of these machines shares a pin of the span
abbrev pub NoneShares : List (Option MachineSetup) → Span → Type 0
NoneShares machines sp = (m : ℕ) → shares machines sp m ≡ false

-- this one of the machines does, and none before it
pub record IsFirstSharer (machines : List (Option MachineSetup)) (sp : Span) (m : ℕ) : Type 0 where
  pub sharing : shares machines sp m ≡ true
  pub first : (n : ℕ) → n < m → shares machines sp n ≡ false

-- no other machine of the setup may write a pin of the span
abbrev pub IsUnshared : Setup → Span → Type 0
IsUnshared u sp = NoneShares u.machines sp

-- another machine may, and none before it
abbrev pub IsLeastSharer : Setup → Span → ℕ → Type 0
IsLeastSharer u sp m = IsFirstSharer u.machines sp m
