use Rattle.std.proofs.Common.{◌≡◌, map, option_map, drop}
use Rattle.pin_matrix.specs.Placing.{HasRestOf}
use Rattle.toml.specs.View.{items_view}
use Rattle.setup_keys.specs.Block.{keys_of_machine}
use Rattle.block_config.specs.Loads.{loaded_of}
use Rattle.block_config.specs.Machines.{machines_from}
use Rattle.block_config.proofs.machines.place_machines.Given as goal

-- the tables that are left go on from the machines so far
abbrev pub invariant-loop-place : goal.invariant-loop-place
invariant-loop-place l =
    let loads = map loaded_of l.loads in
    (machines_from 0 (map (option_map keys_of_machine) l.initial.setup.machines) loads (items_view l.values)
    ≡ machines_from l.place (map (option_map keys_of_machine) l.setup.machines) loads (items_view (drop l.place l.values)))
    × HasRestOf l.setup l.initial.setup
