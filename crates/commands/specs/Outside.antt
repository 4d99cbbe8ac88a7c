-- The outside before and after a call: the files, what the output has taken, and the faults.
use Rattle.std.specs.Prelude.{◌≡◌, Option}
use Rattle.pio_edge.specs.Count.{Faults}
use Rattle.pio_edge.specs.Edge.{Files}
use Rattle.pio_edge.specs.declared.shelf.Shelf.{Ghosts as ShelfSeen}
use Rattle.pio_edge.specs.declared.sink.Sink.{Ghosts as SinkSeen}
use Rattle.fault_lines.specs.Output.{Output, output_of}

-- the files where they are known, the shelf's faults and the output, before and after a call
pub record Call : Type 0 where
  pub files : Option Files
  pub shelf_before : Faults
  pub shelf_after : Faults
  pub out_before : Output
  pub out_after : Output

-- the same, by its parts
abbrev pub call_of : Option Files → Faults → Faults → Output → Output → Call
call_of files shelf_before shelf_after out_before out_after = record {
  files = files;
  shelf_before = shelf_before;
  shelf_after = shelf_after;
  out_before = out_before;
  out_after = out_after;
}

-- an output, as its sink is seen: what it has taken, what still waits, its faults
abbrev pub output_by : {O : Type 0} → SinkSeen O → O → Output
output_by seen out = output_of (seen.taken out) (seen.waiting out) (seen.faults out)

-- a call, as its shelf and its sink are seen, and both of them before and after it
abbrev pub call_by : {F O : Type 0} → ShelfSeen F → SinkSeen O → (shelf_before shelf_after : F) → (out_before out_after : O) → Call
call_by shelf out shelf_before shelf_after out_before out_after =
    call_of (shelf.holds shelf_before) (shelf.faults shelf_before) (shelf.faults shelf_after) (output_by out out_before) (output_by out out_after)

-- the shelf had no fault
abbrev pub SameShelf : Call → Type 0
SameShelf c = c.shelf_after ≡ c.shelf_before

-- the output has taken nothing, handed on nothing, and had no fault
abbrev pub SameOut : Call → Type 0
SameOut c = c.out_after ≡ c.out_before

-- the call did nothing that can be seen
pub record Untouched (c : Call) : Type 0 where
  pub shelf : SameShelf c
  pub out : SameOut c
