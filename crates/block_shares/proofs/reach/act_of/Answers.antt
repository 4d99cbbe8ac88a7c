use Rattle.std.proofs.Common.{ap}
use Rattle.pio_encode.specs.declared.op.Op.{Op}
use Rattle.pio_encode.specs.Word.{reading_of}
use Rattle.block_shares.proofs.reach.act_of.Goals as goal

pub returns-clause-value : goal.returns-clause-value
unfolding reading_of
returns-clause-value c = ap (λ (o : Op). o.act) c.decode.ensures.value
