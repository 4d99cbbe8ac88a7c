use Rattle.span_texts.proofs.Readback.{table_back}
use Rattle.span_texts.proofs.laws.a_table_is_read_back.Goals as goal

pub returns : goal.returns
returns c = table_back
