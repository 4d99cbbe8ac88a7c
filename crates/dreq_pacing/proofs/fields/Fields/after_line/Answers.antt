use Rattle.std.proofs.Common.{drop, sym, ap, ◌∙◌}
use Rattle.dreq_pacing.proofs.Parts.{lines-opened}
use Rattle.dreq_pacing.proofs.fields.Fields.after_line.Goals as goal

pub returns : goal.returns
returns c =
    rw (← c.self.view_is) (ap (drop 1) (sym c.first_line.ensures.line ∙ lines-opened c.self.inside.rest.now))
