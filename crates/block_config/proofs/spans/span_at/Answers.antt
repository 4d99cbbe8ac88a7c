use Rattle.std.proofs.Common.{map, option_map, sym, ◌∙◌}
use Rattle.toml.specs.View.{table_view}
use Rattle.setup_keys.specs.Block.{keys_of_machine}
use Rattle.block_config.specs.Loads.{loaded_of}
use Rattle.block_config.specs.SpanView.{values_view}
use Rattle.block_config.proofs.Assumed.{said_with}
use Rattle.block_config.proofs.spans.span_at.Goals as goal

pub returns-in-Ok-read : goal.returns-in-Ok-read
returns-in-Ok-read c =
    rw (said_with c.args.place (map (option_map keys_of_machine) c.args.machines.now) (map loaded_of c.args.loads.now) (table_view c.args.table.now)
    c.in-Ok.name.now (values_view c.in-Ok-read.values) (option_map loaded_of c.load_for-load.result)
    (sym c.are_known.ensures ∙ c.if-not-are_known.false) c.in-Ok.ensures c.in-Ok-read.ensures c.load_for-load.ensures) c.assuming.ensures
