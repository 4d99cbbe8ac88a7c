-- What a block starts from by a configuration (TOML 1.1) and the programs of a source (choice of this profile).
--   document_of      the table that the bytes are
--   Sections         its arrays of tables and its table of pins
--   sections_at      that it has these and no other key
--   said_of          what a configuration says of the first or the second block: the first fault is the answer
--   config_block     what the setup of one block says
--   config_setup_of  the setup, or its fault
--   second_setup_of  the setup of a second block on the same pins and the pins that it owns, or its fault
use Rattle.std.specs.Prelude.{ℕ, nat_le, is_some, if◌then◌else◌, Option, Some, None, List, [], ◌∷◌, Result, Ok, Err, codes}
use Rattle.std.specs.Str.{is_utf8}
use Rattle.toml.specs.Data.{Data, Items, no_items, Members, get_member, as_array, as_table}
use Rattle.toml.specs.Parse.{parse_document}
use Rattle.pio_assemble.specs.Program.{Assembled}
use Rattle.pin_matrix.specs.declared.setup.Setup.{Setup}
use Rattle.block_config.specs.declared.fault.ConfigKind.{ConfigKind}
use Rattle.block_config.specs.declared.fault.ConfigKind.TheVariants.{NotToml, UnknownKey, WrongType, Many}
use Rattle.block_config.specs.declared.owning.OwningSetup.{OwningSetup}
use Rattle.block_config.specs.declared.pins.BlockNumber.{BlockNumber}
use Rattle.block_config.specs.declared.pins.BlockNumber.TheVariants.{First, Second}
use Rattle.answers.specs.Answers.{made}
use Rattle.block_config.specs.Answer.{ConfigRefusal, refused}
use Rattle.block_config.specs.Arrays.{count_items, all_items}
use Rattle.setup_keys.specs.Block.{MachineKeys, SpanKeys, BlockKeys}
use Rattle.block_config.specs.SetupOf.{setup_of}
use Rattle.block_config.specs.Loads.{all_loads, memory_of}
use Rattle.block_config.specs.Machines.{machines_from}
use Rattle.block_config.specs.Memory.{no_words}
use Rattle.block_config.specs.Owning.{OwningKeys, owning_setup_of}
use Rattle.block_config.specs.Pins.{PinTable, pins_in}
use Rattle.block_config.specs.Programs.{Loaded}
use Rattle.block_config.specs.Spans.{all_spans}
use Rattle.block_config.specs.Tables.{and_then, on_key, are_known}

-- the table that the bytes are: TOML is UTF-8
abbrev pub document_of : List ℕ → Option Members
document_of bytes = if is_utf8 bytes then parse_document bytes else None

-- every key of a configuration
abbrev pub top_names : List (List ℕ)
top_names = codes "load" ∷ codes "machine" ∷ codes "pins" ∷ codes "span" ∷ []

-- an array all of whose elements are tables
abbrev pub tables_in : Option Items → Result Items ConfigKind
tables_in None = Err WrongType
tables_in (Some ds) = if all_items (λ d. is_some (as_table d)) ds then Ok ds else Err WrongType

-- an array of tables, empty where it is absent
abbrev pub tables_of : Option Data → Result Items ConfigKind
tables_of None = Ok no_items
tables_of (Some d) = tables_in (as_array d)

-- the array of tables of a key
abbrev pub tables_at : Members → List ℕ → Result Items ConfigRefusal
tables_at t key = on_key key (tables_of (get_member key t))

-- a table that may be absent
abbrev pub some_table : Option Members → Result (Option Members) ConfigKind
some_table None = Err WrongType
some_table (Some t) = Ok (Some t)

-- the table of a value
abbrev pub table_of : Option Data → Result (Option Members) ConfigKind
table_of None = Ok None
table_of (Some d) = some_table (as_table d)

-- at most 64 spans
abbrev pub few_spans : Items → Result Items ConfigRefusal
few_spans spans = if nat_le (count_items spans) 64 then Ok spans else refused (codes "span") Many

-- the arrays of tables of a configuration, and its table of pins
pub record Sections : Type 0 where
  pub loads : Items
  pub machines : Items
  pub pins : Option Members
  pub spans : Items

-- the table of pins
abbrev pub pins_at : Members → Result (Option Members) ConfigRefusal
pins_at t = on_key (codes "pins") (table_of (get_member (codes "pins") t))

-- the tables of spans
abbrev pub spans_at : Members → Result Items ConfigRefusal
spans_at t = and_then (tables_at t (codes "span")) few_spans

-- the sections of a table whose keys are known
abbrev pub sections_of : Members → Result Sections ConfigRefusal
sections_of t =
    and_then (tables_at t (codes "load")) (λ loads. and_then (tables_at t (codes "machine")) (λ machines.
    and_then (pins_at t) (λ pins. and_then (spans_at t) (λ spans.
    Ok (record { loads = loads; machines = machines; pins = pins; spans = spans })))))

-- the sections of a table
abbrev pub sections_at : Members → Result Sections ConfigRefusal
sections_at t = if are_known top_names t then sections_of t else refused (codes "top") UnknownKey

-- no machine is configured
abbrev pub no_machines : List (Option MachineKeys)
no_machines = None ∷ None ∷ None ∷ None ∷ []

-- a block of its parts
abbrev pub block_with : List ℕ → List (Option MachineKeys) → PinTable → List SpanKeys → BlockKeys
block_with memory machines pins spans = record {
  memory = memory;
  machines = machines;
  high = pins.high;
  level = pins.level;
  out = pins.out;
  bypass = pins.bypass;
  spans = spans;
}

-- the same, and the pins that it owns
abbrev pub owning_with : List ℕ → List (Option MachineKeys) → PinTable → List SpanKeys → OwningKeys
owning_with memory machines pins spans = record { block = block_with memory machines pins spans; own = pins.own }

-- a block over its loads: machines come first, then pins, then spans
abbrev pub block_over : BlockNumber → Sections → List Loaded → Result OwningKeys ConfigRefusal
block_over block s loads =
    and_then (machines_from 0 no_machines loads s.machines) (λ machines. and_then (pins_in block s.pins) (λ pins.
    and_then (all_spans machines loads s.spans) (λ spans. Ok (owning_with (memory_of no_words loads) machines pins spans))))

-- a block of its sections: loads come first
abbrev pub block_of_sections : BlockNumber → List Assembled → Sections → Result OwningKeys ConfigRefusal
block_of_sections block programs s = and_then (all_loads programs s.loads) (block_over block s)

-- the table, unless the bytes are no TOML
abbrev pub parsed : Option Members → Result Members ConfigRefusal
parsed None = refused (codes "file") NotToml
parsed (Some t) = Ok t

-- the block of a configuration's table
abbrev pub block_of_table : BlockNumber → List Assembled → Members → Result OwningKeys ConfigRefusal
block_of_table block programs t = and_then (sections_at t) (block_of_sections block programs)

-- what a configuration of these bytes says of a block, over the programs of a source
abbrev pub said_of : BlockNumber → List ℕ → List Assembled → Result OwningKeys ConfigRefusal
said_of block bytes programs = and_then (parsed (document_of bytes)) (block_of_table block programs)

-- what it says of the only block, or of the first of two
abbrev pub config_block : List ℕ → List Assembled → Result BlockKeys ConfigRefusal
config_block bytes programs = made (λ k. k.block) (said_of First bytes programs)

-- the setup that says it
abbrev pub config_setup_of : List ℕ → List Assembled → Result Setup ConfigRefusal
config_setup_of bytes programs = made setup_of (config_block bytes programs)

-- the setup that says what it says of the second of two blocks, and the pins that this one owns
abbrev pub second_setup_of : List ℕ → List Assembled → Result OwningSetup ConfigRefusal
second_setup_of bytes programs = made owning_setup_of (said_of Second bytes programs)
