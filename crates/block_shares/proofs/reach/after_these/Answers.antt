use Rattle.std.proofs.Common.{◌≡◌, ℕ, ap, ◌∙◌, arith}
use Rattle.block_shares.specs.Reach.{gathered, leads_from}
use Rattle.block_shares.proofs.reach.after_these.Goals as goal

pub returns : goal.returns
returns c =
    let all : c.loop-address.address ≡ 32 = omega arith in
    c.loop-address.invariant ∙ ap (λ (n : ℕ). gathered (leads_from c.args.setup.now) c.args.memory.now c.args.set n) all
