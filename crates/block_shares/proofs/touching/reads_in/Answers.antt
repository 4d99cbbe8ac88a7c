use Rattle.std.proofs.Common.{◌≡◌, ℕ, ap, ◌∙◌, arith}
use Rattle.block_shares.specs.Shares as spec
use Rattle.block_shares.proofs.touching.reads_in.Goals as goal

pub returns : goal.returns
returns c =
    let all : c.loop-address.address ≡ 32 = omega arith in
    c.loop-address.invariant ∙ ap (λ (n : ℕ). spec.reads_in c.args.memory.now c.args.setup.now c.args.set n) all
