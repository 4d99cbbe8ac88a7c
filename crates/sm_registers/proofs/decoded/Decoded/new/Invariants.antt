use Rattle.sm_registers.proofs.Decoding.{AreFilled}
use Rattle.sm_registers.proofs.decoded.Decoded.new.Given as goal

abbrev pub invariant-loop-place : goal.invariant-loop-place
invariant-loop-place l = AreFilled l.fn.setup l.place l.readings
