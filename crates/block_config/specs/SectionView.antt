-- What the code's sections of a configuration say.
use Rattle.std.specs.Prelude.{option_map}
use Rattle.toml.specs.View.{items_view, table_view}
use Rattle.block_config.specs.declared.sections.Sections.{Sections as Code}
use Rattle.block_config.specs.Config.{Sections}

-- the arrays of tables and the table of pins
abbrev pub sections_view : Code → Sections
sections_view s = record {
  loads = items_view s.loads.now;
  machines = items_view s.machines.now;
  pins = option_map (λ t. table_view t.now) s.pins;
  spans = items_view s.spans.now;
}
