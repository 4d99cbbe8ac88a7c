use Rattle.std.proofs.Common.{◌≡◌, ℕ, ap, ◌∙◌, arith}
use Rattle.block_shares.specs.Reach as spec
use Rattle.block_shares.proofs.reach.any_wild.Goals as goal

pub returns : goal.returns
returns c =
    let all : c.loop-address.address ≡ 32 = omega arith in
    c.loop-address.invariant ∙ ap (λ (n : ℕ). spec.any_wild c.args.memory.now c.args.set n) all
