use Rattle.std.proofs.Common.{◌∙◌, ap}
use Rattle.std.specs.Prelude.{unwrap_or}
use Rattle.pio_lex.specs.declared.directive.Directive.TheVariants.{Other}
use Rattle.pio_lex.specs.Words.{directive_of, directives}
use Rattle.pio_lex.proofs.Tables.{viewed}
use Rattle.pio_lex.proofs.directive.Directive.of.Goals as goal

pub returns : goal.returns
unfolding directive_of directives
returns c = c.unwrap_or.ensures ∙ ap (λ o. unwrap_or o Other) (c.beside.ensures ∙ viewed _ _ _ _)
