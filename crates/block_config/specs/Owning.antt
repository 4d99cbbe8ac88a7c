-- A block and the pins that it owns where another block is on the same pins.
--   OwningKeys       what a configuration says of a block
--   keys_of_owning   what the code's setup with owned pins says
--   owning_setup_of  the setup with owned pins that says it
use Rattle.std.specs.Prelude.{ℕ}
use Rattle.setup_keys.specs.Block.{BlockKeys, keys_of_block}
use Rattle.block_config.specs.declared.owning.OwningSetup.{OwningSetup}
use Rattle.block_config.specs.SetupOf.{setup_of}

-- what a configuration says of a block, and the pins that the block owns: bit i is for pin i
pub record OwningKeys : Type 0 where
  pub block : BlockKeys
  pub own : ℕ

-- what a setup with owned pins says
abbrev pub keys_of_owning : OwningSetup → OwningKeys
keys_of_owning s = record { block = keys_of_block s.setup; own = s.own }

-- the setup with owned pins that says it
abbrev pub owning_setup_of : OwningKeys → OwningSetup
owning_setup_of k = record { setup = setup_of k.block; own = k.own }
