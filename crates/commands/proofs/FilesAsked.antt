-- What a command asked of the shelf that has all its files, however it ends; and what a call asked.
use Rattle.std.proofs.Common.{◌≡◌, ◌∙◌, ℕ, Bool, true, false, Option, Some, None, List, [], ◌∷◌, ◌++◌, Result, Ok, Err, refl, sym, ap, subst}
use Rattle.clap.specs.Walk.{Text}
use Rattle.pio_edge.specs.Fetched.{Fetched}
use Rattle.fault_lines.specs.Output.{Output}
use Rattle.fault_lines.specs.declared.fault.File.{File}
use Rattle.fault_lines.specs.declared.fault.File.TheVariants as file
use Rattle.fault_lines.specs.declared.fault.Fault.{Fault}
use Rattle.fault_lines.specs.declared.fault.Fault.TheVariants as fault
use Rattle.command_line.specs.Words.{Asked, table, Asks as WordsAsk, IsWithinRange, WordsAreRefused}
use Rattle.stages.specs.Fetching.{FileSlot, slot, fetches_of, is_role, run_slots, AsksUntil}
use Rattle.stages.proofs.Asking.{part_all, part_none}
use Rattle.commands.specs.Does.{Does}
use Rattle.commands.specs.Outside.{Call}
use Rattle.commands.specs.Tasks.{Task, tabled, HasLongText, slots_of}
use Rattle.commands.specs.Promise.{AsksTo, AsksFiles, TableAsks, CommandAsks, AsksFor, EndsTooLong, Faulty}
use Rattle.commands.specs.Wanted.{wanted}
use Rattle.commands.specs.Ends.{WorkAsks}
use Rattle.commands.proofs.TaskOf.{HasTask}
use Rattle.commands.proofs.WordsWanted.{wanted_as_read, refused_wants_nothing}

-- ---- a stage that reads fails

files_unread : (slots : List FileSlot) (before after : List Fetched) (e : Fault) → AsksUntil slots before after e → AsksTo slots before after e
files_unread slots before after (fault.Unproved place name refusal) h = absurd h
files_unread slots before after (fault.SecondUnproved place name refusal) h = absurd h
files_unread slots before after (fault.Flaw place name flaw) h = absurd h
files_unread slots before after fault.Out h = absurd h
files_unread slots before after e h = h

-- a table is among these files
abbrev either : Bool → Bool → Bool
either true b = true
either false b = b

abbrev have_table : List FileSlot → Bool
have_table [] = false
have_table (s ∷ slots) = either (is_role s.role file.Table) (have_table slots)

either_true : (b : Bool) → either b true ≡ true
either_true true = refl
either_true false = refl

has_table : (earlier later : List FileSlot) (name : Option (List ℕ)) → have_table (earlier ++ slot file.Table name ∷ later) ≡ true
has_table [] later name = refl
has_table (s ∷ earlier) later name =
    ap (λ (b : Bool). either (is_role s.role file.Table) b) (has_table earlier later name) ∙ either_true (is_role s.role file.Table)

-- no table is among the files of a run
pub no_table : (source : List ℕ) (config : Option (List ℕ)) (before after : List Fetched)
    → AsksUntil (run_slots source config None) before after (fault.TooLong file.Table) → ⊥
no_table source config before after h =
    let has = ap have_table h.last.place ∙ has_table h.last.earlier h.last.later h.name in
    let none : have_table (run_slots source config None) ≡ false = refl in
    let both : false ≡ true = sym none ∙ has in
    cc

-- a command reads its files until one of them fails
pub read_asks : (a : Asked) (before after : List Fetched) (e : Fault) → AsksUntil (slots_of a) before after e → CommandAsks a before after (Err e)
read_asks (table source config name) before after (fault.TooLong file.Table) h = absurd (no_table source config before after h)
read_asks (table source config name) before after e h = files_unread (run_slots source config None) before after e h
read_asks a before after e h = files_unread (slots_of a) before after e h

-- a file is too long: one that was read, since `table` reads none
pub too_long : (a : Asked) (c : Call) (role : File) (before after : List Fetched) → AsksUntil (slots_of a) before after (fault.TooLong role)
    → Faulty c a (fault.TooLong role) → EndsTooLong a c role
too_long (table source config name) c file.Table before after asks h = absurd (no_table source config before after asks)
too_long a c role before after asks h = h

-- ---- all files were asked, and the task was done or not

files_asked : (slots : List FileSlot) (task : Task) (before after : List Fetched) (from to : Output) (r : Result (Unit {0}) Fault) → (HasLongText task → ⊥)
    → after ≡ before ++ fetches_of slots → Does task from to r → AsksFiles slots before after r
files_asked slots task before after from to (Ok done) short h d = h
files_asked slots task before after from to (Err fault.Out) short h d = h
files_asked slots task before after from to (Err fault.Memory) short h d = part_all slots before after h
files_asked slots task before after from to (Err (fault.Unproved place name refusal)) short h d = h
files_asked slots task before after from to (Err (fault.SecondUnproved place name refusal)) short h d = h
files_asked slots task before after from to (Err (fault.Flaw place name flaw)) short h d = h
files_asked slots task before after from to (Err (fault.TooLong file.Table)) short h d = absurd (short d.0.0)
files_asked slots task before after from to (Err e) short h d = absurd d

table_asked : (slots : List FileSlot) (task : Task) (before after : List Fetched) (from to : Output) (r : Result (Unit {0}) Fault)
    → after ≡ before ++ fetches_of slots → Does task from to r → TableAsks slots before after r
table_asked slots task before after from to (Ok done) h d = h
table_asked slots task before after from to (Err fault.Out) h d = h
table_asked slots task before after from to (Err fault.Memory) h d = part_all slots before after h
table_asked slots task before after from to (Err (fault.Unproved place name refusal)) h d = h
table_asked slots task before after from to (Err (fault.SecondUnproved place name refusal)) h d = h
table_asked slots task before after from to (Err (fault.Flaw place name flaw)) h d = h
table_asked slots task before after from to (Err (fault.TooLong file.Table)) h d = h
table_asked slots task before after from to (Err e) h d = absurd d

pub did_asks : (a : Asked) (task : Task) (before after : List Fetched) (from to : Output) (r : Result (Unit {0}) Fault) → HasTask a task
    → after ≡ before ++ fetches_of (slots_of a) → Does task from to r → CommandAsks a before after r
did_asks (table source config name) task before after from to r has h d = table_asked (run_slots source config None) task before after from to r h d
did_asks a (tabled u sp) before after from to r has h d = absurd has
did_asks a task before after from to r has h d = files_asked (slots_of a) task before after from to r (λ no. no) h d

-- ---- a call

-- a command that ends without a fault has asked for all its files
all_asked : (a : Asked) (before after : List Fetched) (done : Unit {0}) → CommandAsks a before after (Ok done) → after ≡ before ++ fetches_of (slots_of a)
all_asked (table source config name) before after done h = h
all_asked a before after done h = h

-- one that has asked for none may end for want of memory
memory_asked : (a : Asked) (before : List Fetched) → CommandAsks a before before (Err fault.Memory)
memory_asked (table source config name) before = part_none (run_slots source config None) before
memory_asked a before = part_none (slots_of a) before

-- what was asked for the command that the words ask for
pub work_asks : (words : List Text) (a : Asked) (before after : List Fetched) (r : Result (Unit {0}) Fault)
    → WordsAsk words a → IsWithinRange a → CommandAsks a before after r → WorkAsks words before after r
work_asks words a before after (Ok done) asks range h =
    subst (λ (asked : Option Asked). AsksFor asked before after None) (sym (wanted_as_read words a asks range)) (all_asked a before after done h)
work_asks words a before after (Err e) asks range h =
    subst (λ (asked : Option Asked). AsksFor asked before after (Some e)) (sym (wanted_as_read words a asks range)) h

-- words that are refused ask for no file
pub usage_asks : (words : List Text) (before : List Fetched) → WordsAreRefused words
    → WorkAsks words before before (Err fault.Usage)
usage_asks words before refused =
    subst (λ (asked : Option Asked). AsksFor asked before before (Some fault.Usage))
    (sym (refused_wants_nothing words refused)) refl

none_asked : (asked : Option Asked) (before : List Fetched) → AsksFor asked before before (Some fault.Memory)
none_asked None before = refl
none_asked (Some a) before = memory_asked a before

-- nor do words for which memory ran out
pub memory_asks : (words : List Text) (before : List Fetched) → WorkAsks words before before (Err fault.Memory)
memory_asks words before = none_asked (wanted words) before
