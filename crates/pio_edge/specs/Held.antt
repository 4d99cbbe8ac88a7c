-- What a row of names with their bytes is as files by name.
use Rattle.std.specs.Prelude.{List, map, string_bytes}
use Rattle.std.specs.FinMap.{from_entries}
use Rattle.pio_edge.specs.Edge.{Files}
use Rattle.pio_edge.specs.declared.held.Held.{Held}

-- the first entry of a name counts, and hides the later ones
abbrev pub files_of : List Held → Files
files_of held = from_entries (map (λ h. (string_bytes h.name, h.bytes.items)) held)
