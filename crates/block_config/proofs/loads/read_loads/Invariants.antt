use Rattle.std.proofs.Common.{◌≡◌, map, drop}
use Rattle.pio_assemble.specs.Program.{assembled_of}
use Rattle.toml.specs.View.{items_view}
use Rattle.block_config.specs.Arrays.{gather}
use Rattle.block_config.specs.Loads.{loaded_of, load_in, all_loads}
use Rattle.block_config.proofs.loads.read_loads.Given as goal

-- the tables that are left go on from the loads so far
abbrev pub invariant-loop-place : goal.invariant-loop-place
invariant-loop-place l =
    all_loads (map assembled_of l.programs) (items_view l.values)
    ≡ gather (load_in (map assembled_of l.programs)) l.place (map loaded_of l.loads.items) (items_view (drop l.place l.values))
