-- The tables of machines: the keys of one in order, the machine that it says, and all machines (choice of this profile; the fields
-- are those of the RP2040 Datasheet, section 3.7).
--   clock_keys, pin_keys, flag_keys, count_keys, shift_keys   its keys in order, after `id`, `program` and `start`
--   machine_names    every key of such a table
--   ClockKeys, PinKeys, FlagKeys, CountKeys, FirstKeys        their values by name
--   machine_of_table the machine of a table
--   machine_in       the machine of the table at a place
--   machines_from    the machines of the tables from a place on
use Rattle.std.specs.Prelude.{ℕ, ◌+◌, ◌++◌, map, ◌==◌, ◌&&◌, not, is_some, Bool, true, false, if◌then◌else◌, slice_index, slice_index_or, slice_set, Option, Some, None, List, [], ◌∷◌, Result, Ok, Err, codes}
use Rattle.toml.specs.Data.{Data, Items, no_items, item, Members, get_member, as_table}
use Rattle.block_config.specs.declared.fault.ConfigKind.{ConfigKind}
use Rattle.setup_keys.specs.Block.{MachineKeys}
use Rattle.block_config.specs.Programs.{Loaded, find_loaded, label_of}
use Rattle.block_config.specs.Values.{or_fault, text_of, word_of}
use Rattle.block_config.specs.declared.fault.ConfigKind.TheVariants.{Divider, BothJoins, MachineTwice, Missing, NoProgram, NoLabel}
use Rattle.block_config.specs.declared.path.Section.TheVariants.{Machine}
use Rattle.block_config.specs.Answer.{ConfigRefusal, refused}
use Rattle.block_config.specs.Keys.{Numbered, Flagged}
use Rattle.block_config.specs.Tables.{and_then, on_key, number_at, flag_at, each_at, section_at, element_of}

-- a number with a default, and one that is a pin
abbrev pub number : List ℕ → (low high default : ℕ) → Numbered
number name low high default = record { name = name; low = low; high = high; default = Some default }

-- a pin, 0 where nothing is said
abbrev pub pin : List ℕ → Numbered
pin name = number name 0 31 0

-- true or false
abbrev pub flag : List ℕ → Bool → Flagged
flag name default = record { name = name; default = default }

-- the machine's number, which is required
abbrev pub id_key : Numbered
id_key = record { name = codes "id"; low = 0; high = 3; default = None }

-- the keys of the divider
abbrev pub clock_keys : List Numbered
clock_keys = number (codes "divider") 0 65535 1 ∷ number (codes "fraction") 0 255 0 ∷ []

-- the keys of the pins
abbrev pub pin_keys : List Numbered
pin_keys =
    pin (codes "in_base") ∷ pin (codes "out_base") ∷ pin (codes "set_base") ∷ pin (codes "side_base") ∷ pin (codes "jmp_pin")
    ∷ number (codes "out_count") 0 32 0 ∷ number (codes "set_count") 0 5 5 ∷ []

-- the keys of the flags before `status_rx`
abbrev pub flag_keys : List Flagged
flag_keys =
    flag (codes "in_right") true ∷ flag (codes "out_right") true ∷ flag (codes "autopush") false ∷ flag (codes "autopull") false
    ∷ flag (codes "join_tx") false ∷ flag (codes "join_rx") false ∷ []

-- the last flag
abbrev pub status_key : Flagged
status_key = flag (codes "status_rx") false

-- the keys of the thresholds and the registers
abbrev pub count_keys : List Numbered
count_keys =
    number (codes "push_threshold") 1 32 32 ∷ number (codes "pull_threshold") 1 32 32 ∷ number (codes "status_n") 0 15 0
    ∷ number (codes "x") 0 4294967295 0 ∷ number (codes "y") 0 4294967295 0 ∷ []

-- the keys of the shift registers at the start
abbrev pub shift_keys : List Numbered
shift_keys =
    number (codes "isr") 0 4294967295 0 ∷ number (codes "osr") 0 4294967295 0 ∷ number (codes "isr_count") 0 32 0
    ∷ number (codes "osr_count") 0 32 32 ∷ []

-- every key of a machine's table
abbrev pub machine_names : List (List ℕ)
machine_names =
    id_key.name ∷ codes "program" ∷ codes "start" ∷ map (λ k. k.name) (clock_keys ++ pin_keys) ++ map (λ k. k.name) flag_keys
    ++ status_key.name ∷ map (λ k. k.name) (count_keys ++ shift_keys) ++ codes "pending" ∷ []

-- the divider
pub record ClockKeys : Type 0 where
  pub int : ℕ
  pub frac : ℕ

-- the divider by name
abbrev pub clock_keys_of : List ℕ → ClockKeys
clock_keys_of values = record { int = slice_index values 0; frac = slice_index values 1 }

-- a divider of 0 means 65,536, and has no fraction
abbrev pub divides : ClockKeys → Result ClockKeys ConfigRefusal
divides k = if k.int == 0 && not (k.frac == 0) then refused (codes "fraction") Divider else Ok k

-- the divider of a table
abbrev pub clock_at : Members → Result ClockKeys ConfigRefusal
clock_at t = and_then (each_at (number_at t) clock_keys) (λ values. divides (clock_keys_of values))

-- the pins
pub record PinKeys : Type 0 where
  pub in_base : ℕ
  pub out_base : ℕ
  pub set_base : ℕ
  pub side_base : ℕ
  pub jmp_pin : ℕ
  pub out_count : ℕ
  pub set_count : ℕ

-- the pins by name
abbrev pub pin_keys_of : List ℕ → PinKeys
pin_keys_of values = record {
  in_base = slice_index values 0;
  out_base = slice_index values 1;
  set_base = slice_index values 2;
  side_base = slice_index values 3;
  jmp_pin = slice_index values 4;
  out_count = slice_index values 5;
  set_count = slice_index values 6;
}

-- the pins of a table
abbrev pub pins_at : Members → Result PinKeys ConfigRefusal
pins_at t = and_then (each_at (number_at t) pin_keys) (λ values. Ok (pin_keys_of values))

-- the flags
pub record FlagKeys : Type 0 where
  pub in_right : Bool
  pub out_right : Bool
  pub autopush : Bool
  pub autopull : Bool
  pub join_tx : Bool
  pub join_rx : Bool
  pub status_rx : Bool

-- the flags by name
abbrev pub flag_keys_of : List Bool → Bool → FlagKeys
flag_keys_of values status = record {
  in_right = slice_index_or values 0 false;
  out_right = slice_index_or values 1 false;
  autopush = slice_index_or values 2 false;
  autopull = slice_index_or values 3 false;
  join_tx = slice_index_or values 4 false;
  join_rx = slice_index_or values 5 false;
  status_rx = status;
}

-- FIFOs are joined one way or the other
abbrev pub joins_one_way : List Bool → Result (List Bool) ConfigRefusal
joins_one_way values = if slice_index_or values 4 false && slice_index_or values 5 false then refused (codes "join_rx") BothJoins else Ok values

-- the flags of a table
abbrev pub flags_at : Members → Result FlagKeys ConfigRefusal
flags_at t =
    and_then (and_then (each_at (flag_at t) flag_keys) joins_one_way) (λ values.
    and_then (flag_at t status_key) (λ status. Ok (flag_keys_of values status)))

-- the counts and the registers
pub record CountKeys : Type 0 where
  pub push_threshold : ℕ
  pub pull_threshold : ℕ
  pub status_n : ℕ
  pub x : ℕ
  pub y : ℕ

-- the counts by name
abbrev pub count_keys_of : List ℕ → CountKeys
count_keys_of values = record {
  push_threshold = slice_index values 0;
  pull_threshold = slice_index values 1;
  status_n = slice_index values 2;
  x = slice_index values 3;
  y = slice_index values 4;
}

-- the counts of a table
abbrev pub counts_at : Members → Result CountKeys ConfigRefusal
counts_at t = and_then (each_at (number_at t) count_keys) (λ values. Ok (count_keys_of values))

-- the shift registers at the start, and the word that the machine executes first, if any
pub record FirstKeys : Type 0 where
  pub isr : ℕ
  pub osr : ℕ
  pub isr_count : ℕ
  pub osr_count : ℕ
  pub pending : Option ℕ

-- the shift registers by name, with that word
abbrev pub first_keys_of : List ℕ → Option ℕ → FirstKeys
first_keys_of values pending = record {
  isr = slice_index values 0;
  osr = slice_index values 1;
  isr_count = slice_index values 2;
  osr_count = slice_index values 3;
  pending = pending;
}

-- the word of a table that the machine executes first
abbrev pub pending_at : Members → Result (Option ℕ) ConfigRefusal
pending_at t = on_key (codes "pending") (word_of (get_member (codes "pending") t))

-- the shift registers of a table, and that word
abbrev pub first_at : Members → Result FirstKeys ConfigRefusal
first_at t =
    and_then (each_at (number_at t) shift_keys) (λ values. and_then (pending_at t) (λ pending. Ok (first_keys_of values pending)))

-- the machine's number, which no table before has
abbrev pub free_at : List (Option MachineKeys) → ℕ → Result ℕ ConfigRefusal
free_at machines id = if is_some (slice_index_or machines id None) then refused (codes "id") MachineTwice else Ok id

-- the number of a table
abbrev pub id_at : List (Option MachineKeys) → Members → Result ℕ ConfigRefusal
id_at machines t = and_then (number_at t id_key) (free_at machines)

-- the load of the program that it runs
abbrev pub named_load : List Loaded → Option (List ℕ) → Result Loaded ConfigKind
named_load loads None = Err Missing
named_load loads (Some name) = or_fault NoProgram (find_loaded name loads)

-- the load of a table
abbrev pub load_at : List Loaded → Members → Result Loaded ConfigRefusal
load_at loads t = on_key (codes "program") (and_then (text_of (get_member (codes "program") t)) (named_load loads))

-- the address of its first instruction: that of a label, or else of the program's first word
abbrev pub moved_place : ℕ → Option ℕ → Result ℕ ConfigKind
moved_place address None = Err NoLabel
moved_place address (Some place) = Ok (address + place)

-- the start by the name of a label, or without one
abbrev pub start_of : Loaded → Option (List ℕ) → Result ℕ ConfigKind
start_of l None = Ok l.address
start_of l (Some name) = moved_place l.address (label_of l.program name)

-- the start of a table
abbrev pub start_at : Loaded → Members → Result ℕ ConfigRefusal
start_at l t = on_key (codes "start") (and_then (text_of (get_member (codes "start") t)) (start_of l))

-- where a machine runs
pub record RunKeys : Type 0 where
  pub id : ℕ
  pub load : Loaded
  pub start : ℕ

-- where the machine of a table runs
abbrev pub run_at : List (Option MachineKeys) → List Loaded → Members → Result RunKeys ConfigRefusal
run_at machines loads t =
    and_then (id_at machines t) (λ id. and_then (load_at loads t) (λ load. and_then (start_at load t) (λ start.
    Ok (record { id = id; load = load; start = start }))))

-- a machine of its parts
abbrev pub machine_keys_of : RunKeys → ClockKeys → PinKeys → FlagKeys → CountKeys → FirstKeys → MachineKeys
machine_keys_of run clock pins flags counts first = record {
  id = run.id;
  start = run.start;
  x = counts.x;
  y = counts.y;
  isr = first.isr;
  osr = first.osr;
  isr_count = first.isr_count;
  osr_count = first.osr_count;
  pending = first.pending;
  int = clock.int;
  frac = clock.frac;
  side_rule = run.load.program.side;
  wrap_bottom = run.load.address + run.load.program.wrap_bottom;
  wrap_top = run.load.address + run.load.program.wrap_top;
  in_base = pins.in_base;
  jmp_pin = pins.jmp_pin;
  out_base = pins.out_base;
  out_count = pins.out_count;
  set_base = pins.set_base;
  set_count = pins.set_count;
  side_base = pins.side_base;
  side_count = run.load.program.side.bits;
  in_right = flags.in_right;
  out_right = flags.out_right;
  autopush = flags.autopush;
  autopull = flags.autopull;
  push_threshold = counts.push_threshold;
  pull_threshold = counts.pull_threshold;
  join_tx = flags.join_tx;
  join_rx = flags.join_rx;
  status_rx = flags.status_rx;
  status_n = counts.status_n;
}

-- the machine of a table that runs there, with this divider and these pins
abbrev pub machine_with_pins : Members → RunKeys → ClockKeys → PinKeys → Result MachineKeys ConfigRefusal
machine_with_pins t run clock pins =
    and_then (flags_at t) (λ flags. and_then (counts_at t) (λ counts. and_then (first_at t) (λ first.
    Ok (machine_keys_of run clock pins flags counts first))))

-- the machine of a table that runs there
abbrev pub machine_running : Members → RunKeys → Result MachineKeys ConfigRefusal
machine_running t run = and_then (clock_at t) (λ clock. and_then (pins_at t) (λ pins. machine_with_pins t run clock pins))

-- the machine of a table, after the machines of the tables before it
abbrev pub machine_of_table : List (Option MachineKeys) → List Loaded → Members → Result MachineKeys ConfigRefusal
machine_of_table machines loads t = and_then (run_at machines loads t) (λ run. machine_running t run)

-- the machine of the table at a place
abbrev pub machine_in : ℕ → List (Option MachineKeys) → List Loaded → Data → Result MachineKeys ConfigRefusal
machine_in place machines loads d =
    element_of (codes "machine") (as_table d) (λ t. section_at (Machine place) machine_names t (machine_of_table machines loads t))

-- each machine comes to the place of its number
unfoldable pub machines_from : ℕ → List (Option MachineKeys) → List Loaded → Items → Result (List (Option MachineKeys)) ConfigRefusal
machines_from place machines loads no_items = Ok machines
machines_from place machines loads (item d rest) =
    and_then (machine_in place machines loads d) (λ m. machines_from (place + 1) (slice_set machines m.id (Some m)) loads rest)
