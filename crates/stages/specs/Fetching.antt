-- What a stage asks of the shelf: which files, in which order, and how many bytes of each.
--   FileSlot    a file that is read: its role, and its name where there is one
--   fetches_of  the fetches of files that all came
--   AsksUpTo    the files before one were asked, then this one, and no more
--   FailsAt     the file of a role was asked last, and failed
--   CameLast    the file of a role was asked last, and came
--   AsksPart    the first ones of the files were asked, or all
--   Asks        which of the files were asked, by the end of a stage
--   name_in     the name of the file in a role
--   run_slots   the files of a run in the order of reading, and the same of others
use Rattle.std.specs.Prelude.{◌≡◌, ℕ, ◌+◌, Bool, true, false, if◌then◌else◌, Option, Some, None, List, [], ◌∷◌, ◌++◌, Result, Ok, Err}
use Rattle.std.specs.List.{flat_map}
use Rattle.pio_edge.specs.Fetched.{Fetched}
use Rattle.fault_lines.specs.declared.fault.File.{File}
use Rattle.fault_lines.specs.declared.fault.File.TheVariants as file
use Rattle.fault_lines.specs.declared.fault.Fault.{Fault}
use Rattle.fault_lines.specs.declared.fault.Fault.TheVariants as fault
use Rattle.stages.specs.Judged.{limit}

-- A file that is read: its role, and its name. Nothing is asked for a configuration or a stimulus that isn't named.
pub record FileSlot : Type 0 where
  pub role : File
  pub name : Option (List ℕ)

-- the same, by its parts
abbrev pub slot : File → Option (List ℕ) → FileSlot
slot role name = record { role = role; name = name }

-- a fetch of a file: one byte more than its limit is asked for, so that its length shows a longer file
abbrev pub fetch_of : File → List ℕ → Bool → Fetched
fetch_of role name came = record { name = name; cap = limit role + 1; came = came }

-- the fetch of a file that came, and none where no file is named
abbrev pub fetch_at : File → Option (List ℕ) → List Fetched
fetch_at role None = []
fetch_at role (Some name) = fetch_of role name true ∷ []

-- the fetches of files that all came, in order
abbrev pub fetches_of : List FileSlot → List Fetched
fetches_of slots = flat_map (λ s. fetch_at s.role s.name) slots

-- the files before this one were asked and came, then these fetches of its own were made, and no more
pub record AsksUpTo (slots : List FileSlot) (own : FileSlot) (last before after : List Fetched) : Type 0 where
  pub earlier : List FileSlot
  pub later : List FileSlot
  pub place : slots ≡ earlier ++ own ∷ later
  pub asked : after ≡ before ++ (fetches_of earlier ++ last)

-- the file of this role was asked last, and its fetch failed
pub record FailsAt (slots : List FileSlot) (role : File) (before after : List Fetched) : Type 0 where
  pub name : List ℕ
  pub last : AsksUpTo slots (slot role (Some name)) (fetch_of role name false ∷ []) before after

-- the file of this role was asked last, where one is named, and came
pub record CameLast (slots : List FileSlot) (role : File) (before after : List Fetched) : Type 0 where
  pub name : Option (List ℕ)
  pub last : AsksUpTo slots (slot role name) (fetch_at role name) before after

-- the first ones of the files were asked and came, or all of them
pub record AsksPart (slots : List FileSlot) (before after : List Fetched) : Type 0 where
  pub earlier : List FileSlot
  pub later : List FileSlot
  pub place : slots ≡ earlier ++ later
  pub asked : after ≡ before ++ fetches_of earlier

-- What was asked where a stage ends with this fault: the files up to the one at fault, or the first ones where memory
-- ran out. A span is looked up by its name once the configuration has made the setup. No stage ends otherwise.
abbrev pub AsksUntil : List FileSlot → List Fetched → List Fetched → Fault → Type 0
AsksUntil slots before after fault.Memory = AsksPart slots before after
AsksUntil slots before after (fault.Shelf role) = FailsAt slots role before after
AsksUntil slots before after (fault.TooLong role) = CameLast slots role before after
AsksUntil slots before after (fault.Words line kind) = CameLast slots file.Words before after
AsksUntil slots before after (fault.Source line kind) = CameLast slots file.Source before after
AsksUntil slots before after (fault.Config key kind) = CameLast slots file.Config before after
AsksUntil slots before after (fault.Second key kind) = CameLast slots file.Second before after
AsksUntil slots before after (fault.Stim line kind) = CameLast slots file.Stimulus before after
AsksUntil slots before after (fault.Table line kind) = CameLast slots file.Table before after
AsksUntil slots before after fault.NoSpan = CameLast slots file.Config before after
AsksUntil slots before after e = ⊥

-- what was asked by a stage that ends so: all files where it has no fault
abbrev pub Asks : {T : Type 0} → List FileSlot → List Fetched → List Fetched → Result T Fault → Type 0
Asks slots before after (Ok _) = after ≡ before ++ fetches_of slots
Asks slots before after (Err e) = AsksUntil slots before after e

-- ---- the files of a role

-- both roles are the same
abbrev pub is_role : File → File → Bool
is_role file.Source file.Source = true
is_role file.Words file.Words = true
is_role file.Config file.Config = true
is_role file.Second file.Second = true
is_role file.Stimulus file.Stimulus = true
is_role file.Table file.Table = true
is_role file.Send file.Send = true
is_role role other = false

-- the name of the first of these files in this role
abbrev pub name_in : List FileSlot → File → Option (List ℕ)
name_in [] role = None
name_in (s ∷ slots) role = if is_role s.role role then s.name else name_in slots role

-- ---- the files in the order of reading

-- one file, where it is named
abbrev pub one_slot : File → Option (List ℕ) → List FileSlot
one_slot role name = slot role name ∷ []

-- a source, and a configuration and a stimulus where they are named
abbrev pub run_slots : (source : List ℕ) → (config stimulus : Option (List ℕ)) → List FileSlot
run_slots source config stimulus =
    slot file.Source (Some source) ∷ slot file.Config config ∷ slot file.Stimulus stimulus ∷ []

-- a source, the configurations of two blocks, and a stimulus where it is named
abbrev pub pair_slots : (source config second : List ℕ) → (stimulus : Option (List ℕ)) → List FileSlot
pair_slots source config second stimulus =
    slot file.Source (Some source) ∷ slot file.Config (Some config) ∷ slot file.Second (Some second)
    ∷ slot file.Stimulus stimulus ∷ []
