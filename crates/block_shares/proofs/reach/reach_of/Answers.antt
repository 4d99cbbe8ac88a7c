use Rattle.std.proofs.Common.{◌≡◌, ℕ, ap, ◌∙◌, arith}
use Rattle.block_shares.specs.Reach.{reach_in}
use Rattle.block_shares.proofs.reach.reach_of.Goals as goal

pub returns : goal.returns
returns c =
    let all : c.loop-round.round ≡ 32 = omega arith in
    c.loop-round.invariant ∙ ap (λ (n : ℕ). reach_in c.args.memory.now c.args.setup.now n) all
