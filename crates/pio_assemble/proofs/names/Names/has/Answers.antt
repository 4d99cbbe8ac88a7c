use Rattle.std.proofs.Common.{◌∙◌, ap}
use Rattle.pio_assemble.specs.Checks.{is_among}
use Rattle.pio_assemble.proofs.Naming.{among_seen}
use Rattle.pio_assemble.proofs.names.Names.has.Goals as goal

pub returns : goal.returns
returns c = c.contains.ensures ∙ among_seen c.as_str.result.now c.args.name.now c.self.inside.texts.keys c.as_str.ensures ∙ ap (λ s. is_among s c.args.name.now) c.self.view_is
