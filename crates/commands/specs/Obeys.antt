-- The promise of a command, whole.
--   Obeys         a command that an order asks for
--   ObeysAtRest   the same of one that runs no block
use Rattle.std.specs.Prelude.{◌≡◌, ℕ, ◌+◌, ◌≤◌, Result}
use Rattle.pio_edge.specs.declared.shelf.Shelf.{Ghosts as ShelfSeen}
use Rattle.pio_edge.specs.declared.sink.Sink.{Ghosts as SinkSeen}
use Rattle.fault_lines.specs.declared.fault.Fault.{Fault}
use Rattle.command_line.specs.Words.{asked_by}
use Rattle.command_line.specs.declared.order.Order.{Order}
use Rattle.commands.specs.Outside.{call_by}
use Rattle.commands.specs.Promise.{CommandEnds, CommandAsks}
use Rattle.commands.specs.Worked.{most_worked}

-- It ends as promised, has asked the shelf for its files in order, leaves what the shelf holds, and works out no more
-- clocks than it has to. Shelf and output are as they are seen before and after.
pub record Obeys {F O : Type 0} (order : Order) (shelf : ShelfSeen F) (out : SinkSeen O) (shelf_before shelf_after : F) (out_before out_after : O)
    (steps_before steps_after : ℕ) (result : Result (Unit {0}) Fault) : Type 0 where
  pub ends : CommandEnds (asked_by order) (call_by shelf out shelf_before shelf_after out_before out_after) result
  pub fetched : CommandAsks (asked_by order) (shelf.fetched shelf_before) (shelf.fetched shelf_after) result
  pub same : shelf.holds shelf_after ≡ shelf.holds shelf_before
  pub worked : steps_after ≤ steps_before + most_worked (shelf.holds shelf_before) (asked_by order)

-- the same of a command that has no count of steps, and so works out no clock
abbrev pub ObeysAtRest : {F O : Type 0} → Order → ShelfSeen F → SinkSeen O → (shelf_before shelf_after : F) → (out_before out_after : O)
    → Result (Unit {0}) Fault → Type 0
ObeysAtRest order shelf out shelf_before shelf_after out_before out_after result =
    Obeys order shelf out shelf_before shelf_after out_before out_after 0 0 result
