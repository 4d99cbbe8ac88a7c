-- The loads of a configuration lie in memory with their programs.
use Rattle.std.proofs.Common.{◌≡◌, ℕ, ◌+◌, ◌<◌, ◌≤◌, ◌&&◌, cond, nat_le, Bool, true, false, Option, Some, None, is_some, Ok, Err, List, [], ◌∷◌, map, length, subst, refl, codes}
use Rattle.std.specs.List.{list_all, AllByRecursion}
use Rattle.std.specs.Str.{bytes_eq}
use Rattle.std.proofs.lemmas.Bool.{and_parts, leb-true}
use Rattle.toml.specs.Data.{Items, Members, as_table, get_member}
use Rattle.pio_assemble.specs.declared.program.Program.{Program}
use Rattle.pio_assemble.specs.Program.{Assembled, assembled_of}
use Rattle.pio_encode.specs.Relocation.{relocated}
use Rattle.block_config.specs.declared.fault.ConfigKind.{ConfigKind}
use Rattle.block_config.specs.declared.fault.ConfigKind.TheVariants.{Range, NoProgram, DoesNotFit}
use Rattle.block_config.specs.declared.path.Section.TheVariants.{Load}
use Rattle.block_config.specs.Loads.{first_shared, unshared, keeps_origin, placed_at, at_key, load_names, find_program, named_program, program_at, load_at, load_of_table, load_in, all_loads}
use Rattle.block_config.specs.Memory.{fits_at}
use Rattle.block_config.specs.Programs.{Loaded, find_loaded}
use Rattle.block_config.specs.Values.{or_fault, text_of, number_of}
use Rattle.block_config.proofs.Gathered.{gather_keeps, found_keeps, read_table}
use Rattle.block_config.proofs.Ranges.{goes_on, off_key}

-- what the type of a program keeps
pub record IsProgram (p : Assembled) : Type 0 where
  pub some : 1 ≤ length p.words
  pub bottom : p.wrap_bottom < length p.words
  pub top : p.wrap_top < length p.words

pub are_programs : (ps : List Program) → AllByRecursion IsProgram (map assembled_of ps)
are_programs [] = tt
are_programs (p ∷ ps) = (record { some = p.has_words; bottom = p.wrap_bottom_in_words; top = p.wrap_top_in_words }, are_programs ps)

-- a program that lies in memory
pub record IsLoad (l : Loaded) : Type 0 where
  pub program : IsProgram l.program
  pub within : l.address + length l.program.words ≤ 32

pub words_fit : (address : ℕ) (words : List ℕ) → fits_at address words ≡ true → address + length words ≤ 32
words_fit address words e = leb-true (address + length words) 32 (and_parts (nat_le (address + length words) 32) (list_all (λ word. is_some (relocated word address)) words) e).0

pub or_found : {X : Type 0} (kind : ConfigKind) (o : Option X) (x : X) → or_fault kind o ≡ Ok x → o ≡ Some x
or_found kind None x e = cc
or_found kind (Some y) x e = let same : y ≡ x = cc in rw same refl

unless_loaded : {X : Type 0} (b : Bool) (o : Option X) (x : X) → cond b (Err Range) (or_fault NoProgram o) ≡ Ok x → o ≡ Some x
unless_loaded true o x e = cc
unless_loaded false o x e = or_found NoProgram o x e

program_named : (programs : List Assembled) (loads : List Loaded) (o : Option (List ℕ)) (p : Assembled) → AllByRecursion IsProgram programs → named_program programs loads o ≡ Ok p → IsProgram p
program_named programs loads None p h e = cc
program_named programs loads (Some name) p h e =
    found_keeps IsProgram (λ q. bytes_eq q.name name) programs p h (unless_loaded (is_some (find_loaded name loads)) (find_program name programs) p e)

same_load : (l found : Loaded) (o : Option ℕ) → unshared l o ≡ Ok found → l ≡ found
same_load l found None e = cc
same_load l found (Some a) e = cc

placed_fits : (p : Assembled) (front : List Loaded) (address : ℕ) (found : Loaded) (origin fits : Bool) → keeps_origin p.origin address ≡ origin → fits_at address p.words ≡ fits → IsProgram p
    → cond (origin && fits) (unshared (record { program = p; address = address }) (first_shared front (record { program = p; address = address }))) (Err DoesNotFit) ≡ Ok found → IsLoad found
placed_fits p front address found true true is fit program e =
    subst IsLoad (same_load (record { program = p; address = address }) found _ e) (record { program = program; within = words_fit address p.words fit })
placed_fits p front address found true false is fit program e = cc
placed_fits p front address found false fits is fit program e = cc

table_fits : (programs : List Assembled) (front : List Loaded) (t : Members) (found : Loaded) → AllByRecursion IsProgram programs → load_of_table programs front t ≡ Ok found → IsLoad found
table_fits programs front t found h e =
    let at = goes_on (program_at programs front t) (λ p. load_at p front t) found e in
    let named = goes_on (text_of (get_member (codes "program") t)) (named_program programs front) at.value (off_key (codes "program") _ at.value at.found) in
    let placed = goes_on (number_of (at_key at.value) (get_member (codes "at") t)) (placed_at at.value front) found (off_key (codes "at") _ found at.rest) in
    placed_fits at.value front placed.value found _ _ refl refl (program_named programs front named.value at.value h named.rest) placed.rest

pub loads_fit : (programs : List Assembled) (tables : Items) (loads : List Loaded) → AllByRecursion IsProgram programs → all_loads programs tables ≡ Ok loads → AllByRecursion IsLoad loads
loads_fit programs tables loads h e =
    gather_keeps IsLoad (load_in programs) (λ place front d l _ read.
    let table = read_table (codes "load") (as_table d) (Load place) load_names (load_of_table programs front) l read in
    table_fits programs front table.0 l h table.1) tables 0 [] loads tt e
