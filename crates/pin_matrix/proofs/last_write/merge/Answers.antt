-- The writes one by one.
use Rattle.std.proofs.Common.{sym, ◌∙◌, arith}
use Rattle.pin_matrix.proofs.Merging.{merged-drop, merged-past}
use Rattle.pin_matrix.proofs.last_write.merge.Goals as goal

pub loop-write-preserved : goal.loop-write-preserved
loop-write-preserved c =
    rw c.written-pins.ensures
    (sym (merged-drop c.loop-write.pins c.args.writes.now c.loop-write.write-index (0, 0) (omega arith)) ∙ c.loop-write.invariant)

pub returns : goal.returns
returns c = sym (merged-past c.loop-write.pins c.args.writes.now c.loop-write.write-index (omega arith)) ∙ c.loop-write.invariant
