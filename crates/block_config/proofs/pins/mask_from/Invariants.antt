use Rattle.std.proofs.Common.{◌≡◌, drop}
use Rattle.toml.specs.View.{items_view}
use Rattle.block_config.specs.Pins.{mask_from}
use Rattle.block_config.proofs.pins.mask_from.Given as goal

-- the pins that are left go on from those so far
abbrev pub invariant-loop-place : goal.invariant-loop-place
invariant-loop-place l = mask_from 0 (items_view l.values) ≡ mask_from l.mask (items_view (drop l.place l.values))
