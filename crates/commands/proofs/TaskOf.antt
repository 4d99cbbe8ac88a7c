-- Which kind of task a command has, and what follows for a span that isn't provable, and for a text that is too long.
use Rattle.std.proofs.Common.{ℕ, List}
use Rattle.fault_lines.specs.declared.fault.File.TheVariants.{Table}
use Rattle.span_texts.specs.declared.refusal.Refusal.{Refusal}
use Rattle.command_line.specs.Words.{Asked, run, check, table, recheck, pair}
use Rattle.commands.specs.Outside.{Call}
use Rattle.commands.specs.Needs.{IsRefusedBy}
use Rattle.commands.specs.Tasks.{Task, listing, trace, twin_trace, verdicts, tabled, rechecked, ComesTo, HasLongText}
use Rattle.commands.specs.Promise.{WritesRefused, LongText, EndsTooLong}
use Rattle.commands.specs.Does.{HasLeft}

-- a command may have this task
abbrev pub HasTask : Asked → Task → Type 0
HasTask a (listing text) = Unit {0}
HasTask (run source config stimulus clocks) (trace u text) = Unit {0}
HasTask (pair source config second stimulus clocks) (twin_trace s t text) = Unit {0}
HasTask (check source config) (verdicts u) = Unit {0}
HasTask (table source config name) (tabled u sp) = Unit {0}
HasTask (recheck source config name file) (rechecked u sp rows) = Unit {0}
HasTask a task = ⊥

-- what its task leaves where a span isn't provable, the command does
pub refused_out : (a : Asked) (task : Task) (c : Call) (place : ℕ) (at : List ℕ) (r : Refusal) → HasTask a task
    → ((P : Task → Type 0) → P task → ComesTo c a P) → IsRefusedBy task place at r → HasLeft task c.out_before c.out_after → WritesRefused a c
refused_out a (listing text) c place at r has so h left = absurd h
refused_out (run source config stimulus clocks) (trace u text) c place at r has so h left = left
refused_out (pair source config second stimulus clocks) (twin_trace s t text) c place at r has so h left = left
refused_out (check source config) (verdicts u) c place at r has so h left =
    record { text = so _ left.text; handed = left.handed; out = left.faults }
refused_out (table source config name) (tabled u sp) c place at r has so h left = left
refused_out (recheck source config name file) (rechecked u sp rows) c place at r has so h left = left
refused_out a task c place at r has so h left = absurd has

-- only the text of `table` may be too long
pub long_text : (a : Asked) (task : Task) (c : Call) → HasTask a task → HasLongText task → LongText c a → EndsTooLong a c Table
long_text (table source config name) task c has long h = h
long_text a (tabled u sp) c has long h = absurd has
long_text a task c has long h = absurd long
