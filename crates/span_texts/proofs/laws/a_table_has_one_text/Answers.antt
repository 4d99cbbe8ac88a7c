use Rattle.span_texts.proofs.OneText.{one_text, read_table_is, read_table_told}
use Rattle.span_texts.proofs.laws.a_table_has_one_text.Goals as goal

pub returns-clause-text : goal.returns-clause-text
returns-clause-text c = one_text

pub returns-clause-table : goal.returns-clause-table
returns-clause-table c = read_table_is

pub returns-clause-ages : goal.returns-clause-ages
returns-clause-ages c = read_table_told
