-- What words want that were read, and that were refused.
use Rattle.std.proofs.Common.{arith, ◌≡◌, ◌≢◌, ◌∙◌, ◌+◌, ◌≤◌, ◌==◌, Bool, true, false, inl, inr, Option, Some, None, option_and_then, List, [], ◌∷◌, Result, Ok, Err, refl, sym, ap, subst, if◌then◌else◌}
use Rattle.std.proofs.lemmas.Bool.{and_left, and_right, ne_eqb}
use Rattle.clap.specs.Walk.{Text}
use Rattle.clap.specs.Faults.{fault_of}
use Rattle.command_line.specs.Tool.{tool, side_limit}
use Rattle.command_line.specs.Words.{Asked, Asks, WordsAreRefused, IsWithinRange, asm, run, check, table, recheck, shares, gen, dis, measure, receive, uart, pair, inspect, asked_of, has_no_room}
use Rattle.fault_lines.specs.declared.fault.Fault.{Fault}
use Rattle.fault_lines.specs.declared.fault.Fault.TheVariants.{Usage}
use Rattle.commands.specs.Outside.{Call, Untouched}
use Rattle.commands.specs.Promise.{Ends, CommandEnds}
use Rattle.commands.specs.Wanted.{wanted, with_room, unless_faulty}
use Rattle.commands.specs.Ends.{EndsAs, WorkEnds}

-- what is in range has room
room_within : (a : Asked) → IsWithinRange a → has_no_room a ≡ false
room_within (asm file) h = refl
room_within (run source config stimulus clocks) h = refl
room_within (check source config) h = refl
room_within (table source config name) h = refl
room_within (recheck source config name file) h = refl
room_within (shares source config) h = refl
room_within (gen seed clocks) h = refl
room_within (measure source config stimulus clocks) h = refl
room_within (receive source config stimulus clocks pin bit) h = refl
room_within (inspect source config stimulus clocks) h = refl
room_within (uart send divider clocks) h = refl
room_within (pair source config second stimulus clocks) h = refl
room_within (dis file side false) h = and_right (side == side_limit) false refl
room_within (dis file side true) h =
    let bound : side + 1 ≤ 5 = h in
    and_left (side == side_limit) true (ne_eqb side 5 (λ e. omega (arith, bound, e)))

-- without faults what is asked for is wanted where it has room
of_no_fault : {F : Type 0} (faults : List F) (asked : Option Asked) → faults ≡ [] → unless_faulty faults asked ≡ option_and_then with_room asked
of_no_fault [] asked h = refl
of_no_fault (fault ∷ faults) asked h = cc

-- what has room is wanted, and nothing else
with_room_by : (a : Asked) (full : Bool) → has_no_room a ≡ full → with_room a ≡ (if full then None else Some a)
with_room_by a full h = ap (λ (b : Bool). if b then None else Some a) h

-- what words ask for
of_asked : (words : List Text) (a : Asked) → Asks words a → wanted words ≡ with_room a
unfolding wanted
of_asked words a asks =
    of_no_fault (fault_of tool words) (asked_of words) asks.taken ∙ ap (λ asked. option_and_then with_room asked) asks.asked

-- words that were read want what was read
pub wanted_as_read : (words : List Text) (a : Asked) → Asks words a → IsWithinRange a → wanted words ≡ Some a
wanted_as_read words a asks range = of_asked words a asks ∙ with_room_by a false (room_within a range)

-- where there are faults nothing is wanted
none_of_faulty : {F : Type 0} (faults : List F) (asked : Option Asked) → faults ≢ [] → unless_faulty faults asked ≡ None
none_of_faulty [] asked h = absurd (h refl)
none_of_faulty (fault ∷ faults) asked h = refl

-- words that are refused want nothing
pub refused_wants_nothing : (words : List Text) → WordsAreRefused words → wanted words ≡ None
unfolding wanted
refused_wants_nothing words (inl faulty) = none_of_faulty (fault_of tool words) (asked_of words) faulty
refused_wants_nothing words (inr full) = of_asked words full.0 full.1 ∙ with_room_by full.0 true full.2

-- a command that was asked for ends the work of the words that asked for it
pub work_ends : (words : List Text) (a : Asked) (c : Call) (r : Result (Unit {0}) Fault) → Asks words a → IsWithinRange a → CommandEnds a c r → WorkEnds words c r
work_ends words a c (Ok u) asks range h = subst (λ (asked : Option Asked). Ends asked c None) (sym (wanted_as_read words a asks range)) h
work_ends words a c (Err e) asks range h = subst (λ (asked : Option Asked). Ends asked c (Some e)) (sym (wanted_as_read words a asks range)) h

-- words that are refused end with usage, and nothing is done
pub usage_ends : (words : List Text) (c : Call) → WordsAreRefused words → Untouched c → EndsAs words c (Some Usage)
usage_ends words c refused same = subst (λ (asked : Option Asked). Ends asked c (Some Usage)) (sym (refused_wants_nothing words refused)) same

-- a command doesn't end with usage
pub never_usage : (a : Asked) (c : Call) (r : Result (Unit {0}) Fault) → CommandEnds a c r → r ≢ Err Usage
never_usage a c r h is = subst (λ (x : Result (Unit {0}) Fault). CommandEnds a c x) is h
