-- The setup that says some numbers. Numbers past a field's range lose what is too much (`clipped_block`), so that every
-- block in numbers has a setup: of a block in range it is the one that says it (`a_setup_is_what_it_says`), and what a configuration
-- says is in range (`a_configuration_is_not_clipped`, `a_second_configuration_is_not_clipped`, `the_default_is_not_clipped`).
use Rattle.pin_matrix.specs.declared.setup.Setup.{Setup}
use Rattle.setup_keys.specs.Block.{BlockKeys}
use Rattle.setup_keys.proofs.Making.{a_setup_says}

-- the setup that says `clipped_block k`: there is one (`a_clipped_block_has_a_setup`), and no other (`setups_that_say_the_same_are_one`)
unfoldable pub setup_of : BlockKeys → Setup
setup_of k = (a_setup_says k).0
