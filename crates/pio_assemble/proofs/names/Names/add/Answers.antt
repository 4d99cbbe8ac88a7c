use Rattle.std.proofs.Common.{◌∙◌, ap, map, string_bytes}
use Rattle.pio_assemble.specs.Checks.{with_name}
use Rattle.pio_assemble.proofs.Naming.{added_seen}
use Rattle.pio_assemble.proofs.names.Names.add.Goals as goal

pub returns : goal.returns
returns c = ap (map string_bytes) c.in_ok-insert.ensures.keys ∙ added_seen c.in_ok-from_str.field-0 c.args.name.now c.self.inside.texts.keys (c.in_ok-from_str.ensures.ok ∙ c.as_str.ensures) ∙ ap (λ s. with_name s c.args.name.now) c.self.view_is
