use Rattle.std.proofs.Common.{ap, sym, ◌∙◌, arith}
use Rattle.block_core.specs.Block.{Run}
use Rattle.block_core.proofs.twin.Twin.new.Goals as goal

pub invariant_of-result : goal.invariant_of-result
invariant_of-result g c =
    let one = ap (λ (r : Run). r.clock) c.in_ok-new.ensures in
    let other = ap (λ (r : Run). r.clock) c.in_ok-new-2.ensures in
    record { calls = omega (arith, one); same = other ∙ sym one }
