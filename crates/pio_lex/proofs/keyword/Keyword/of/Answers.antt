use Rattle.std.proofs.Common.{◌∙◌}
use Rattle.pio_lex.specs.Words.{keyword_of, keywords}
use Rattle.pio_lex.proofs.Tables.{viewed}
use Rattle.pio_lex.proofs.keyword.Keyword.of.Goals as goal

pub returns : goal.returns
unfolding keyword_of keywords
returns c = c.beside.ensures ∙ viewed _ _ _ _
