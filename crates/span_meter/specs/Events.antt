-- What a span that speaks not of every pair of its events looks at in a clock, by what the machines did in the last clock of note.
--   SpanEvent, SpanEvents   its events, and what it doesn't speak of
--   events_in               those of a span of a configuration
--   is_selective            whether it speaks not of every pair of edges
--   comes                   an event comes
--   is_dropped              the span doesn't speak of the from-events before
--   mark_of, marks          the marks of clocks
use Rattle.std.specs.Prelude.{ℕ, suc, ◌==◌, Bool, true, false, not, ◌&&◌, ◌||◌, Option, Some, None, is_some, List, [], ◌∷◌, length, if◌then◌else◌, slice_index_or}
use Rattle.std.specs.List.{list_any}
use Rattle.pin_matrix.specs.declared.assume.Assumption.{Assumption}
use Rattle.pin_matrix.specs.declared.span.PinSignal.{PinSignal}
use Rattle.pin_matrix.specs.declared.span.Span.{Span}
use Rattle.pin_matrix.specs.declared.span.SpanUnit.{SpanUnit}
use Rattle.pin_matrix.specs.declared.span.SpanUnit.TheVariants.{Ticks, Clocks}
use Rattle.block_core.specs.declared.conduct.Conduct.{Conduct}
use Rattle.block_core.specs.declared.conduct.MachineConduct.{MachineConduct}
use Rattle.block_core.specs.Edges.{has_edge}
use Rattle.span_meter.specs.declared.pins.ShownPins.{ShownPins}
use Rattle.span_meter.specs.Measured.{signal_of}
use Rattle.span_meter.specs.Spoken.{Mark}

-- An event: an edge of a pin, which one of these instructions makes, or any where none is named; or, without a signal, the end of
-- one of these instructions.
pub record SpanEvent : Type 0 where
  pub pin : ℕ
  pub signal : Option PinSignal
  pub rise : Bool
  pub at : List ℕ

-- The events of a span, its machine, and what it doesn't speak of: waits, if it is prompt, but at one of `stalls`; ways through one
-- of `without`; where lines cut it, what a line that disables the machine or restarts it comes after; and what comes once X or Y
-- isn't as it assumes.
pub record SpanEvents : Type 0 where
  pub machine : ℕ
  pub from : SpanEvent
  pub to : SpanEvent
  pub prompt : Bool
  pub stalls : List ℕ
  pub without : List ℕ
  pub cut : Bool
  pub assume : List Assumption

-- a span in clocks, of which a line that disables its machine excuses the from-edges before
abbrev pub is_cut : SpanUnit → Bool
is_cut Ticks = false
is_cut Clocks = true

-- the address is one of these
abbrev pub is_one_of : List ℕ → ℕ → Bool
is_one_of addresses address = list_any (λ a. a == address) addresses

-- no address is named
abbrev pub is_none : List ℕ → Bool
is_none addresses = length addresses == 0

-- it assumes something of X or Y
abbrev pub assumes : Span → Bool
assumes sp = not (length sp.assume == 0)

-- a span with a key by which it speaks not of every pair of edges
abbrev pub is_selective : Span → Bool
is_selective sp =
    ((sp.prompt || not (is_none sp.without)) || (not (is_none sp.from_at) || not (is_none sp.to_at))) || assumes sp

-- some of these is such a span
abbrev pub is_any_selective : List Span → Bool
is_any_selective spans = list_any is_selective spans

-- The events of a span of a configuration. One that speaks of every pair is not cut: it measures every pair, as it does without the
-- others.
abbrev pub events_in : Span → SpanEvents
events_in sp = record {
  machine = sp.machine;
  from = record { pin = sp.from_pin; signal = sp.from_signal; rise = sp.from_rise; at = sp.from_at };
  to = record { pin = sp.to_pin; signal = sp.to_signal; rise = sp.to_rise; at = sp.to_at };
  prompt = sp.prompt;
  stalls = sp.stalls;
  without = sp.without;
  cut = is_cut sp.unit && is_selective sp;
  assume = sp.assume;
}

-- the instruction in memory at one of these addresses has a tick in the clock
abbrev pub works_at : List ℕ → Option MachineConduct → Bool
works_at addresses None = false
works_at addresses (Some m) = m.works && is_one_of addresses m.pc

-- and finishes in it
abbrev pub finishes_at : List ℕ → Option MachineConduct → Bool
finishes_at addresses None = false
finishes_at addresses (Some m) = m.finishes && is_one_of addresses m.pc

-- one of these instructions makes the edges of the clock, or any where none is named
abbrev pub is_made_at : List ℕ → Option MachineConduct → Bool
is_made_at addresses m = is_none addresses || works_at addresses m

-- the event comes, by the pins before and after the clock and what the machine did in it
abbrev pub comes : SpanEvent → (before after : ShownPins) → Option MachineConduct → Bool
comes e before after m =
    if is_some e.signal
    then has_edge e.pin e.rise (signal_of e.signal before) (signal_of e.signal after) && is_made_at e.at m
    else finishes_at e.at m

-- At the clock's start the machine waits at an address that isn't named, where the span is prompt, or comes to one of `without`
-- next; or a line cuts the span.
abbrev pub is_dropped : SpanEvents → Option MachineConduct → Bool
is_dropped e None = false
is_dropped e (Some m) =
    (m.waits && (e.prompt && not (is_one_of e.stalls m.pc))) || ((m.comes && is_one_of e.without m.pc) || (e.cut && m.breaks))

-- what the machine with this number did in the clock, where that is the clock of note that is told of
abbrev pub conduct_of : (clock machine : ℕ) → Conduct → Option MachineConduct
conduct_of clock machine c = if c.clock == clock then slice_index_or c.machines machine None else None

-- the pins after the last clock of note are those after this one
abbrev pub pins_told : Conduct → ShownPins
pins_told c = record { level = c.level; direction = c.direction }

-- the mark of a clock, with these pins before it
abbrev pub mark_of : SpanEvents → (clock : ℕ) → (before : ShownPins) → Conduct → Mark
mark_of e clock before c = let m = conduct_of clock e.machine c in record {
  from = comes e.from before (pins_told c) m;
  to = comes e.to before (pins_told c) m;
  drops = is_dropped e m;
}

-- the marks of some clocks from this one on, with these pins before them
unfoldable pub marks : SpanEvents → (clock : ℕ) → (before : ShownPins) → List Conduct → List Mark
marks e clock before [] = []
marks e clock before (c ∷ rest) = mark_of e clock before c ∷ marks e (suc clock) (pins_told c) rest
