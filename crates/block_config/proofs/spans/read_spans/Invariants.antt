use Rattle.std.proofs.Common.{◌≡◌, map, option_map, drop}
use Rattle.toml.specs.View.{items_view}
use Rattle.block_config.specs.Arrays.{gather}
use Rattle.setup_keys.specs.Block.{keys_of_machine, keys_of_span}
use Rattle.block_config.specs.Loads.{loaded_of}
use Rattle.block_config.specs.Spans.{span_in, all_spans}
use Rattle.block_config.proofs.spans.read_spans.Given as goal

-- the tables that are left go on from the spans so far
abbrev pub invariant-loop-place : goal.invariant-loop-place
invariant-loop-place l =
    let machines = map (option_map keys_of_machine) l.machines in
    all_spans machines (map loaded_of l.loads) (items_view l.values)
    ≡ gather (span_in machines (map loaded_of l.loads)) l.place (map keys_of_span l.spans.items) (items_view (drop l.place l.values))
