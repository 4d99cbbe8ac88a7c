-- All tables of loads: which program lies at which address (choice of this profile; loading and relocation: Pico SDK manual,
-- on loading programs).
--   load_names     every key of such a table
--   program_at     the program of a table: one of the source that no load before has
--   load_at        its load, at an address of its own
--   first_shared   the least address that a load covers and an earlier one too
--   all_loads      the loads of all tables
--   memory_of      the instruction memory with programs loaded into it
--   loaded_of      what the code's load says
use Rattle.std.specs.Prelude.{ℕ, nat_le, nat_lt, ◌+◌, ◌==◌, ◌&&◌, is_some, Bool, true, if◌then◌else◌, unwrap_or, Option, Some, None, List, [], ◌∷◌, Result, Ok, Err, length, codes}
use Rattle.std.specs.List.{find, list_any, range_with_len}
use Rattle.std.specs.Str.{bytes_eq}
use Rattle.toml.specs.Data.{Data, Items, Members, get_member, as_table}
use Rattle.pio_assemble.specs.Program.{Assembled, assembled_of}
use Rattle.block_config.specs.declared.fault.ConfigKind.{ConfigKind}
use Rattle.block_config.specs.declared.fault.ConfigKind.TheVariants.{Missing, Range, NoProgram, DoesNotFit, Overlap}
use Rattle.block_config.specs.declared.path.Section.TheVariants.{Load}
use Rattle.block_config.specs.declared.programs.LoadedProgram as code
use Rattle.block_config.specs.Answer.{ConfigRefusal}
use Rattle.block_config.specs.Arrays.{gather}
use Rattle.block_config.specs.Keys.{Numbered}
use Rattle.block_config.specs.Memory.{fits_at, loaded}
use Rattle.block_config.specs.Programs.{Loaded, find_loaded}
use Rattle.block_config.specs.Tables.{and_then, on_key, section_at, element_of}
use Rattle.block_config.specs.Values.{or_fault, text_of, number_of}

-- every key of a load's table
abbrev pub load_names : List (List ℕ)
load_names = codes "program" ∷ codes "at" ∷ []

-- the program of this name
abbrev pub find_program : List ℕ → List Assembled → Option Assembled
find_program name programs = find (λ p. bytes_eq p.name name) programs

-- a program is loaded once, and has to be one of the source
abbrev pub named_program : List Assembled → List Loaded → Option (List ℕ) → Result Assembled ConfigKind
named_program programs loads None = Err Missing
named_program programs loads (Some name) = if is_some (find_loaded name loads) then Err Range else or_fault NoProgram (find_program name programs)

-- the program of a table, after the loads of the tables before it
abbrev pub program_at : List Assembled → List Loaded → Members → Result Assembled ConfigRefusal
program_at programs loads t = on_key (codes "program") (and_then (text_of (get_member (codes "program") t)) (named_program programs loads))

-- an address from 0 to 31: where nothing is said, the program's origin or else 0
abbrev pub at_key : Assembled → Numbered
at_key p = record { name = codes "at"; low = 0; high = 31; default = Some (unwrap_or p.origin 0) }

-- a program that asks for an origin lies there
abbrev pub keeps_origin : Option ℕ → ℕ → Bool
keeps_origin None address = true
keeps_origin (Some origin) address = origin == address

-- a word of a load has this address
abbrev pub covers : Loaded → ℕ → Bool
covers l address = nat_le l.address address && nat_lt address (l.address + length l.program.words)

-- a word of one of the loads has this address
abbrev pub is_covered : List Loaded → ℕ → Bool
is_covered loads address = list_any (λ l. covers l address) loads

-- the least address that a load covers and one of the loads too
unfoldable pub first_shared : List Loaded → Loaded → Option ℕ
first_shared loads l = find (λ address. covers l address && is_covered loads address) (range_with_len 0 32)

-- loads share no address
abbrev pub unshared : Loaded → Option ℕ → Result Loaded ConfigKind
unshared l None = Ok l
unshared l (Some address) = Err (Overlap address)

-- a program at an address, after other loads: where its origin asks for, within memory with all jump targets, and where none is
abbrev pub placed_at : Assembled → List Loaded → ℕ → Result Loaded ConfigKind
placed_at p loads address =
    let l : Loaded = record { program = p; address = address } in
    if keeps_origin p.origin address && fits_at address p.words then unshared l (first_shared loads l) else Err DoesNotFit

-- the load of a program by its table
abbrev pub load_at : Assembled → List Loaded → Members → Result Loaded ConfigRefusal
load_at p loads t = on_key (codes "at") (and_then (number_of (at_key p) (get_member (codes "at") t)) (placed_at p loads))

-- the load of a table, after the loads of the tables before it
abbrev pub load_of_table : List Assembled → List Loaded → Members → Result Loaded ConfigRefusal
load_of_table programs loads t = and_then (program_at programs loads t) (λ p. load_at p loads t)

-- the load of the table at a place
abbrev pub load_in : List Assembled → ℕ → List Loaded → Data → Result Loaded ConfigRefusal
load_in programs place loads d =
    element_of (codes "load") (as_table d) (λ t. section_at (Load place) load_names t (load_of_table programs loads t))

-- the loads of all tables
abbrev pub all_loads : List Assembled → Items → Result (List Loaded) ConfigRefusal
all_loads programs tables = gather (load_in programs) 0 [] tables

-- a memory with programs loaded into it one after the other
unfoldable pub memory_of : List ℕ → List Loaded → List ℕ
memory_of memory [] = memory
memory_of memory (l ∷ ls) = memory_of (loaded memory l.address l.program.words) ls

-- what the code's load says: a program and its address
abbrev pub loaded_of : code.LoadedProgram → Loaded
loaded_of l = record { program = assembled_of l.program.now; address = l.address }
