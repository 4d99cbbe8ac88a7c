-- The tables of spans: the keys of one in order, the span that it says, and all spans (choice of this profile).
--   name_at     its name
--   ends_at     the machine and the two events, SpanEnds by name: of each the pin and its edge, or none
--   bounds_at   what is counted, from where to where, Bounds by name
--   labels_at   the addresses of a list of labels
--   exempt_at   which stalls don't count, and of which from-edges nothing is said, Exempt by name
--   events_at   the instructions of the two events, Events by name
--   span_in     the span of the table at a place
--   all_spans   the spans of all tables
use Rattle.std.specs.Prelude.{ℕ, nat_le, nat_lt, ◌==◌, ◌&&◌, ◌||◌, not, Float, is_some, Bool, true, false, if◌then◌else◌, slice_index_or, Option, Some, None, List, [], ◌∷◌, length, Result, Ok, Err, codes}
use Rattle.std.specs.Float.{float_is_infinite, is_sign_negative}
use Rattle.std.specs.List.{find}
use Rattle.std.specs.Str.{bytes_eq}
use Rattle.toml.specs.Data.{Data, Items, Members, get_member, as_array, as_float, as_str, as_table}
use Rattle.pin_matrix.specs.declared.assume.Assumption.{Assumption}
use Rattle.pin_matrix.specs.declared.span.PinSignal.TheVariants.{Level, Direction}
use Rattle.pin_matrix.specs.declared.span.SpanUnit.{SpanUnit}
use Rattle.pin_matrix.specs.declared.span.SpanUnit.TheVariants.{Ticks, Clocks}
use Rattle.pin_matrix.specs.Spans.{is_span_name}
use Rattle.block_config.specs.declared.fault.ConfigKind.{ConfigKind}
use Rattle.block_config.specs.declared.fault.ConfigKind.TheVariants.{Missing, Range, WrongType, NoProgram, Many, Excluded}
use Rattle.block_config.specs.declared.edges.Edge.{Edge}
use Rattle.block_config.specs.declared.path.Section.TheVariants.{Span}
use Rattle.block_config.specs.Answer.{ConfigRefusal, refused}
use Rattle.block_config.specs.Arrays.{count_items, all_items, gather}
use Rattle.setup_keys.specs.Block.{MachineKeys, SpanKeys}
use Rattle.block_config.specs.Keys.{Numbered, Flagged}
use Rattle.block_config.specs.Assume.{assume_at, label_in}
use Rattle.block_config.specs.Loads.{covers}
use Rattle.block_config.specs.Machines.{flag}
use Rattle.block_config.specs.Programs.{Loaded}
use Rattle.block_config.specs.Tables.{and_then, on_key, has_key, number_at, flag_at, section_at, element_of}
use Rattle.block_config.specs.Values.{map_ok, number_in, text_of}

-- every key of a span's table
abbrev pub span_names : List (List ℕ)
span_names =
    codes "name" ∷ codes "machine" ∷ codes "from_pin" ∷ codes "to_pin" ∷ codes "from_edge" ∷ codes "to_edge" ∷ codes "unit"
    ∷ codes "min" ∷ codes "max" ∷ codes "stalls" ∷ codes "prompt" ∷ codes "without"
    ∷ codes "from_at" ∷ codes "to_at" ∷ codes "from_done" ∷ codes "to_done" ∷ codes "assume" ∷ []

-- a number that is required
abbrev pub required : List ℕ → (high : ℕ) → Numbered
required name high = record { name = name; low = 0; high = high; default = None }

-- the name of a span, which another may have too
abbrev pub name_of : Option (List ℕ) → Result (List ℕ) ConfigKind
name_of None = Err Missing
name_of (Some name) = if is_span_name name then Ok name else Err Range

-- the name of a table
abbrev pub name_at : Members → Result (List ℕ) ConfigRefusal
name_at t = on_key (codes "name") (and_then (text_of (get_member (codes "name") t)) name_of)

-- the machine whose ticks count, which has to be configured
abbrev pub configured : List (Option MachineKeys) → ℕ → Result ℕ ConfigRefusal
configured machines id = if is_some (slice_index_or machines id None) then Ok id else refused (codes "machine") NoProgram

-- the machine of a table
abbrev pub machine_at : List (Option MachineKeys) → Members → Result ℕ ConfigRefusal
machine_at machines t = and_then (number_at t (required (codes "machine") 3)) (configured machines)

-- The keys of an event: a pin with its edge, and the instructions that alone make the edge; or, in place of these, the
-- instructions whose end is the event.
pub record EventNames : Type 0 where
  pub pin : List ℕ
  pub edge : List ℕ
  pub at : List ℕ
  pub done : List ℕ

-- the keys of the from-event
abbrev pub from_names : EventNames
from_names = record { pin = codes "from_pin"; edge = codes "from_edge"; at = codes "from_at"; done = codes "from_done" }

-- the keys of the to-event
abbrev pub to_names : EventNames
to_names = record { pin = codes "to_pin"; edge = codes "to_edge"; at = codes "to_at"; done = codes "to_done" }

-- a pin, which an event needs where no instructions are named whose end it is; without one it is 0
abbrev pub pin_of : (done : Bool) → Option Data → Result ℕ ConfigKind
pin_of done None = if done then Ok 0 else Err Missing
pin_of done (Some d) = number_in 0 31 d

-- the pin of an event
abbrev pub pin_at : EventNames → Members → Result ℕ ConfigRefusal
pin_at n t = on_key n.pin (pin_of (has_key n.done t) (get_member n.pin t))

-- no edge of a pin
abbrev pub no_edge : Edge
no_edge = record { signal = None; rise = false }

-- the level rises or falls, or the direction becomes out or in
abbrev pub edge_named : List ℕ → Result Edge ConfigKind
edge_named word =
    if bytes_eq word (codes "rise") then Ok (record { signal = Some Level; rise = true })
    else if bytes_eq word (codes "fall") then Ok (record { signal = Some Level; rise = false })
    else if bytes_eq word (codes "out") then Ok (record { signal = Some Direction; rise = true })
    else if bytes_eq word (codes "in") then Ok (record { signal = Some Direction; rise = false })
    else Err Range

-- an edge, which an event needs where it needs a pin
abbrev pub edge_of : (done : Bool) → Option (List ℕ) → Result Edge ConfigKind
edge_of done None = if done then Ok no_edge else Err Missing
edge_of done (Some word) = edge_named word

-- the edge of an event
abbrev pub edge_at : EventNames → Members → Result Edge ConfigRefusal
edge_at n t = on_key n.edge (and_then (text_of (get_member n.edge t)) (edge_of (has_key n.done t)))

-- from where to where a span goes
pub record SpanEnds : Type 0 where
  pub machine : ℕ
  pub from_pin : ℕ
  pub to_pin : ℕ
  pub from_edge : Edge
  pub to_edge : Edge

-- the machine, the pins and the edges of a table, each pin before each edge
abbrev pub ends_at : List (Option MachineKeys) → Members → Result SpanEnds ConfigRefusal
ends_at machines t =
    and_then (machine_at machines t) (λ machine.
    and_then (pin_at from_names t) (λ from_pin. and_then (pin_at to_names t) (λ to_pin.
    and_then (edge_at from_names t) (λ from_edge. and_then (edge_at to_names t) (λ to_edge.
    Ok (record { machine = machine; from_pin = from_pin; to_pin = to_pin; from_edge = from_edge; to_edge = to_edge }))))))

-- what the bounds count: ticks where nothing is said
abbrev pub unit_of : Option (List ℕ) → Result SpanUnit ConfigKind
unit_of None = Ok Ticks
unit_of (Some word) = if bytes_eq word (codes "ticks") then Ok Ticks else if bytes_eq word (codes "clocks") then Ok Clocks else Err Range

-- the unit of a table
abbrev pub unit_at : Members → Result SpanUnit ConfigRefusal
unit_at t = on_key (codes "unit") (and_then (text_of (get_member (codes "unit") t)) unit_of)

-- the least bound, below 2 ^ 24
abbrev pub least_at : Members → Result ℕ ConfigRefusal
least_at t = number_at t (required (codes "min") 16777215)

-- TOML's float `inf`, also written `+inf`
abbrev pub is_endless : Option Float → Bool
is_endless None = false
is_endless (Some x) = float_is_infinite x && not (is_sign_negative x)

-- the greatest bound: a number below 2 ^ 24, or `inf`, which says that there is none
abbrev pub most_of : Option Data → Result (Option ℕ) ConfigKind
most_of None = Err Missing
most_of (Some d) = if is_endless (as_float d) then Ok None else map_ok Some (number_in 0 16777215 d)

-- the greatest bound of a table
abbrev pub most_at : Members → Result (Option ℕ) ConfigRefusal
most_at t = on_key (codes "max") (most_of (get_member (codes "max") t))

-- how long a span lasts
pub record Bounds : Type 0 where
  pub unit : SpanUnit
  pub least : ℕ
  pub most : Option ℕ

-- a greatest bound is below a least one
abbrev pub is_under : Option ℕ → (least : ℕ) → Bool
is_under None least = false
is_under (Some most) least = nat_lt most least

-- the least isn't above the greatest
abbrev pub ordered : Bounds → Result Bounds ConfigRefusal
ordered b = if is_under b.most b.least then refused (codes "max") Range else Ok b

-- the unit and the bounds of a table
abbrev pub bounds_at : Members → Result Bounds ConfigRefusal
bounds_at t =
    and_then (unit_at t) (λ unit. and_then (least_at t) (λ least. and_then (most_at t) (λ most.
    ordered (record { unit = unit; least = least; most = most }))))

-- The load of the program that a machine runs. A machine starts at one of its program's words, and loads share no address: so
-- it is the load in whose addresses the machine starts.
abbrev pub load_of_machine : List Loaded → Option MachineKeys → Option Loaded
load_of_machine loads None = None
load_of_machine loads (Some m) = find (λ l. covers l m.start) loads

-- the address of an element that names a label
abbrev pub label_of_element : Option Loaded → Option (List ℕ) → Result ℕ ConfigKind
label_of_element load None = Err WrongType
label_of_element load (Some name) = label_in load name

-- the addresses of all elements
abbrev pub label_addresses : Option Loaded → Items → Result (List ℕ) ConfigKind
label_addresses load ds = gather (λ place front d. label_of_element load (as_str d)) 0 [] ds

-- Texts come first, then that they aren't more than any key has; then that there are at least and at most so many.
abbrev pub labels_in : (least most : ℕ) → Option Loaded → Option Items → Result (List ℕ) ConfigKind
labels_in least most load None = Err WrongType
labels_in least most load (Some ds) =
    if all_items (λ d. is_some (as_str d)) ds
    then (if nat_le (count_items ds) 16
    then (if nat_le least (count_items ds) && nat_le (count_items ds) most then label_addresses load ds else Err Range)
    else Err Many)
    else Err WrongType

-- the labels of a value, none where it is absent
abbrev pub labels_of : (least most : ℕ) → Option Loaded → Option Data → Result (List ℕ) ConfigKind
labels_of least most load None = Ok []
labels_of least most load (Some d) = labels_in least most load (as_array d)

-- the labels of a key, at least and at most so many where the table has the key
abbrev pub labels_at : List ℕ → (least most : ℕ) → Option Loaded → Members → Result (List ℕ) ConfigRefusal
labels_at key least most load t = on_key key (labels_of least most load (get_member key t))

-- how many stalls a span may name: in clocks none
abbrev pub most_stalls : SpanUnit → ℕ
most_stalls Ticks = 16
most_stalls Clocks = 0

-- the addresses at which stalls don't count
abbrev pub stalls_at : SpanUnit → Option Loaded → Members → Result (List ℕ) ConfigRefusal
stalls_at unit load t = labels_at (codes "stalls") 0 (most_stalls unit) load t

-- whether nothing is said of a from-edge after which the machine waits
abbrev pub prompt_key : Flagged
prompt_key = flag (codes "prompt") false

-- the addresses of which each excuses a from-edge after which the machine comes there
abbrev pub without_at : Option Loaded → Members → Result (List ℕ) ConfigRefusal
without_at load t = labels_at (codes "without") 0 16 load t

-- which stalls don't count, and of which from-edges nothing is said
pub record Exempt : Type 0 where
  pub stalls : List ℕ
  pub prompt : Bool
  pub without : List ℕ

-- what of a table is exempt, at labels of the program that is loaded so
abbrev pub exempt_at : SpanUnit → Option Loaded → Members → Result Exempt ConfigRefusal
exempt_at unit load t =
    and_then (stalls_at unit load t) (λ stalls. and_then (flag_at t prompt_key) (λ prompt. and_then (without_at load t) (λ without.
    Ok (record { stalls = stalls; prompt = prompt; without = without }))))

-- the instructions that alone make an event's edge: one at least, since an event of none never comes
abbrev pub makers_at : EventNames → Option Loaded → Members → Result (List ℕ) ConfigRefusal
makers_at n load t = labels_at n.at 1 16 load t

-- a table names instructions whose end is the event, and a pin, an edge or instructions that make one beside them
abbrev pub is_beside : EventNames → Members → Bool
is_beside n t = has_key n.done t && ((has_key n.pin t || has_key n.edge t) || has_key n.at t)

-- the instructions whose end is an event: one at least, and nothing beside them
abbrev pub enders_at : EventNames → Option Loaded → Members → Result (List ℕ) ConfigRefusal
enders_at n load t = and_then (labels_at n.done 1 16 load t) (λ enders. if is_beside n t then refused n.done Excluded else Ok enders)

-- the instructions of an event, of which one list is empty
abbrev pub named_by : (makers enders : List ℕ) → List ℕ
named_by makers enders = if length enders == 0 then makers else enders

-- the instructions that the two events name
pub record Events : Type 0 where
  pub from_at : List ℕ
  pub to_at : List ℕ

-- the instructions of both events, at labels of the program that is loaded so
abbrev pub events_at : Option Loaded → Members → Result Events ConfigRefusal
events_at load t =
    and_then (makers_at from_names load t) (λ from_at. and_then (makers_at to_names load t) (λ to_at.
    and_then (enders_at from_names load t) (λ from_done. and_then (enders_at to_names load t) (λ to_done.
    Ok (record { from_at = named_by from_at from_done; to_at = named_by to_at to_done })))))

-- what a span says after its name
pub record SpanValues : Type 0 where
  pub ends : SpanEnds
  pub bounds : Bounds
  pub exempt : Exempt
  pub events : Events

-- the load of the program that a span's machine runs
abbrev pub load_of_span : List (Option MachineKeys) → List Loaded → (machine : ℕ) → Option Loaded
load_of_span machines loads machine = load_of_machine loads (slice_index_or machines machine None)

-- the values of a table
abbrev pub values_at : List (Option MachineKeys) → List Loaded → Members → Result SpanValues ConfigRefusal
values_at machines loads t =
    and_then (ends_at machines t) (λ ends. and_then (bounds_at t) (λ bounds.
    and_then (exempt_at bounds.unit (load_of_span machines loads ends.machine) t) (λ exempt.
    and_then (events_at (load_of_span machines loads ends.machine) t) (λ events.
    Ok (record { ends = ends; bounds = bounds; exempt = exempt; events = events })))))

-- a span of its parts
abbrev pub span_keys_of : List ℕ → SpanValues → List Assumption → SpanKeys
span_keys_of name v assume = record {
  name = name;
  machine = v.ends.machine;
  from_pin = v.ends.from_pin;
  from_signal = v.ends.from_edge.signal;
  from_rise = v.ends.from_edge.rise;
  to_pin = v.ends.to_pin;
  to_signal = v.ends.to_edge.signal;
  to_rise = v.ends.to_edge.rise;
  unit = v.bounds.unit;
  least = v.bounds.least;
  most = v.bounds.most;
  stalls = v.exempt.stalls;
  prompt = v.exempt.prompt;
  without = v.exempt.without;
  from_at = v.events.from_at;
  to_at = v.events.to_at;
  assume = assume;
}

-- what a table says but for its assumptions
abbrev pub named_values : List (Option MachineKeys) → List Loaded → Members → Result (List ℕ × SpanValues) ConfigRefusal
named_values machines loads t = and_then (name_at t) (λ name. and_then (values_at machines loads t) (λ values. Ok (name, values)))

-- the span of the table at a place: what it assumes comes last
abbrev pub span_at : ℕ → List (Option MachineKeys) → List Loaded → Members → Result SpanKeys ConfigRefusal
span_at place machines loads t =
    and_then (section_at (Span place) span_names t (named_values machines loads t))
    (λ v. and_then (assume_at place (load_of_span machines loads v.1.ends.machine) t) (λ assume. Ok (span_keys_of v.0 v.1 assume)))

-- the span of the table at a place
abbrev pub span_in : List (Option MachineKeys) → List Loaded → ℕ → List SpanKeys → Data → Result SpanKeys ConfigRefusal
span_in machines loads place spans d =
    element_of (codes "span") (as_table d) (λ t. span_at place machines loads t)

-- the spans of all tables
abbrev pub all_spans : List (Option MachineKeys) → List Loaded → Items → Result (List SpanKeys) ConfigRefusal
all_spans machines loads tables = gather (span_in machines loads) 0 [] tables
