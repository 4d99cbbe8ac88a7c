use Rattle.std.proofs.Common.{◌≡◌, Bool, true, not, ◌↔◌, sym, subst}
use Rattle.block_shares.specs.Shares.{IsAlone}
use Rattle.block_shares.proofs.Feeling.{alone_says}
use Rattle.block_shares.proofs.sharing.alone.Goals as goal

pub returns : goal.returns
returns c =
    subst (λ (b : Bool). not b ≡ true ↔ IsAlone c.args.setup.now c.args.m) (sym c.feels_any.ensures) (alone_says c.args.setup.now c.args.m)
