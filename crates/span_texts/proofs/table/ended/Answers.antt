use Rattle.std.proofs.Common.{arith}
use Rattle.span_texts.proofs.Goings.{refuses, ended_more}
use Rattle.span_texts.proofs.table.ended.Goals as goal

pub returns-in-len1-up : goal.returns-in-len1-up
returns-in-len1-up c = refuses _ _ _ c.wrong_at.ensures (ended_more c.args.number c.args.text.now (omega arith))
