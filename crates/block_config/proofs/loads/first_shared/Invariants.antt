use Rattle.std.proofs.Common.{◌≡◌, ◌-◌, ◌&&◌, map}
use Rattle.std.specs.List.{find, range_with_len}
use Rattle.block_config.specs.Loads.{loaded_of, covers, is_covered, first_shared}
use Rattle.block_config.proofs.loads.first_shared.Given as goal

-- the first address that is shared isn't before this one
abbrev pub invariant-loop-address : goal.invariant-loop-address
invariant-loop-address l =
    first_shared (map loaded_of l.loads) (loaded_of l.load)
    ≡ find (λ a. covers (loaded_of l.load) a && is_covered (map loaded_of l.loads) a) (range_with_len l.address (32 - l.address))
