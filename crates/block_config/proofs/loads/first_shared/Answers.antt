use Rattle.std.proofs.Common.{◌&&◌, map, refl, sym, ◌∙◌}
use Rattle.std.proofs.lemmas.Bool.{and_right, and_left}
use Rattle.block_config.specs.Loads.{loaded_of, covers, is_covered, first_shared}
use Rattle.block_config.proofs.Covered.{find_more}
use Rattle.block_config.proofs.loads.first_shared.Goals as goal
use Rattle.block_config.proofs.loads.first_shared.Goals.{else-covers-via-then-covers+else-is_covered, else-covers-via-else-covers}

pub loop-address-init : goal.loop-address-init
unfolding first_shared
loop-address-init c = refl

pub loop-address-preserved : goal.loop-address-preserved
loop-address-preserved c =
    let loads = map loaded_of c.args.loads.now in
    let load = loaded_of c.args.load.now in
    let i = c.loop-address.address in
    find_more (λ a. covers load a && is_covered loads a) i _ c.loop-address.invariant c.loop-address-test.true
    (elim c.else-covers.branch [
      | else-covers-via-then-covers+else-is_covered w ↦ and_right (covers load i) (is_covered loads i) (sym w.is_covered.ensures ∙ w.if-is_covered.false)
      | else-covers-via-else-covers w ↦ and_left (covers load i) (is_covered loads i) (sym c.covers.ensures ∙ w.if-covers.false)
    ])
