-- A command keeps its promise: where a stage that reads fails, and where its task is done or not.
use Rattle.std.proofs.Common.{◌≡◌, ℕ, ◌+◌, ◌≤◌, Option, IfSome, List, Result, Ok, Err, arith, refl, sym, subst}
use Rattle.pio_edge.specs.Count.{Faults}
use Rattle.pio_edge.specs.Edge.{Files}
use Rattle.pio_edge.specs.Fetched.{Fetched}
use Rattle.pio_edge.specs.declared.shelf.Shelf.{Ghosts as ShelfSeen}
use Rattle.pio_edge.specs.declared.sink.Sink.{Ghosts as SinkSeen}
use Rattle.fault_lines.specs.Output.{Output}
use Rattle.fault_lines.specs.declared.fault.File.TheVariants.{Table}
use Rattle.fault_lines.specs.declared.fault.Fault.{Fault}
use Rattle.fault_lines.specs.declared.fault.Fault.TheVariants as fault
use Rattle.command_line.specs.Words.{Asked, asked_by}
use Rattle.command_line.specs.declared.order.Order.{Order}
use Rattle.stages.specs.Fetching.{AsksUntil}
use Rattle.stages.specs.Judged.{Judged, right, IfRight}
use Rattle.stages.specs.Stages.{KeepsPlan, ReadFails, shelved}
use Rattle.stages.proofs.Parts.{told}
use Rattle.commands.specs.Does.{Does}
use Rattle.commands.specs.Obeys.{Obeys}
use Rattle.commands.specs.Outside.{call_of, output_by}
use Rattle.commands.specs.Promise.{CommandEnds}
use Rattle.commands.specs.Tasks.{Task, judge, plan_for, slots_of}
use Rattle.commands.specs.Worked.{most_worked}
use Rattle.commands.proofs.FilesAsked.{read_asks, too_long, did_asks}
use Rattle.commands.proofs.TaskOf.{HasTask, refused_out, long_text}

-- what a command reads fails, and so it ends
read_ends : (a : Asked) (files : Option Files) (before after : Faults) (out : Output) (e : Fault) (had has : List Fetched) → AsksUntil (slots_of a) had has e
    → ReadFails (shelved files before after) (plan_for a) e → CommandEnds a (call_of files before after out out) (Err e)
unfolding judge
read_ends a files before after out (fault.Shelf role) had has asks h = record { named = h.0; reached = h.1; out = refl }
read_ends a files before after out fault.Memory had has asks h = record { shelf = h; out = refl }
read_ends a files before after out fault.Usage had has asks h = absurd h
read_ends a files before after out fault.Out had has asks h = absurd h
read_ends a files before after out (fault.Unproved place name refusal) had has asks h = absurd h
read_ends a files before after out (fault.SecondUnproved place name refusal) had has asks h = absurd h
read_ends a files before after out (fault.Flaw place name flaw) had has asks h = absurd h
read_ends a files before after out (fault.TooLong role) had has asks h =
    too_long a _ role had has asks (record { judged = h.1; untouched = record { shelf = h.0; out = refl } })
read_ends a files before after out e had has asks h = record { judged = h.1; untouched = record { shelf = h.0; out = refl } }

-- a stage that reads all that a command reads fails
pub unread : {F O V : Type 0} (order : Order) (shelf : ShelfSeen F) (out : SinkSeen O) (view : V → Task) (before after : F) (o : O) (steps : ℕ) (e : Fault)
    → KeepsPlan shelf (plan_for (asked_by order)) view before after (Err e) → Obeys order shelf out before after o o steps steps (Err e)
unread order shelf out view before after o steps e k = record {
  ends = read_ends (asked_by order) _ _ _ (output_by out o) e _ _ k.asked k.stage;
  fetched = read_asks (asked_by order) _ _ e k.asked;
  same = k.same;
  worked = omega arith;
}

-- a task that the files come to satisfies the property
if_right : (j : Judged Task) (task : Task) (P : Task → Type 0) → j ≡ right task → P task → IfRight j P
if_right j task P e p = subst (λ (k : Judged Task). IfRight k P) (sym e) p

-- the files come to a task, which is done or not, and so the command ends
did_ends : (a : Asked) (files : Option Files) (before after : Faults) (from to : Output) (task : Task) (r : Result (Unit {0}) Fault) → HasTask a task
    → after ≡ before → ((P : Task → Type 0) → P task → IfSome files (λ f. IfRight (judge f a) P)) → Does task from to r
    → CommandEnds a (call_of files before after from to) r
did_ends a files before after from to task (Ok done) has same so d = record {
  writes = record { text = so _ d.0.text; handed = d.0.handed; out = d.0.faults };
  spans = so _ d.1.0;
  holds = so _ d.1.1;
  shelf = same;
}
did_ends a files before after from to task (Err fault.Out) has same so d =
    record { part = so _ d.0; spans = so _ d.1.0; rose = d.1.1; shelf = same }
did_ends a files before after from to task (Err fault.Memory) has same so d = record { shelf = same; out = d }
did_ends a files before after from to task (Err (fault.Unproved place name refusal)) has same so d =
    record { first = so _ d.0; out = refused_out a task _ place name refusal has so d.0 d.1; shelf = same }
did_ends a files before after from to task (Err (fault.SecondUnproved place name refusal)) has same so d =
    record { first = so _ d.0; untouched = record { shelf = same; out = d.1 } }
did_ends a files before after from to task (Err (fault.Flaw place name flaw)) has same so d =
    record { first = so _ d.0; untouched = record { shelf = same; out = d.1 } }
did_ends a files before after from to task (Err (fault.TooLong Table)) has same so d =
    long_text a task _ has d.0.0 (record { text = so _ d.0.0; spans = so _ d.0.1; untouched = record { shelf = same; out = d.1 } })
did_ends a files before after from to task (Err e) has same so d = absurd d

-- a command read its files, and its task is done or not
pub did : {F O V : Type 0} (order : Order) (shelf : ShelfSeen F) (out : SinkSeen O) (view : V → Task) (v : V) (before after : F) (o p : O) (n m : ℕ)
    (r : Result (Unit {0}) Fault) → KeepsPlan shelf (plan_for (asked_by order)) view before after (Ok v) → HasTask (asked_by order) (view v)
    → Does (view v) (output_by out o) (output_by out p) r → m ≤ n + most_worked (shelf.holds before) (asked_by order)
    → Obeys order shelf out before after o p n m r
unfolding judge
did order shelf out view v before after o p n m r k has d worked = record {
  ends = did_ends (asked_by order) _ _ _ _ _ (view v) r has k.stage.0
      (λ P h. told (shelf.holds before) _ _ (λ f e. if_right _ (view v) P e h) k.stage.1) d;
  fetched = did_asks (asked_by order) (view v) _ _ _ _ r has k.asked d;
  same = k.same;
  worked = worked;
}
