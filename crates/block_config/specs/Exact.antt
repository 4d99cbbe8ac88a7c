-- A setup says exactly what its configuration says (`a_configuration_is_not_clipped`, `a_second_configuration_is_not_clipped`,
-- `the_default_is_not_clipped`).
use Rattle.std.specs.Prelude.{◌≡◌, Result}
use Rattle.pin_matrix.specs.declared.setup.Setup.{Setup}
use Rattle.answers.specs.Answers.{made}
use Rattle.block_config.specs.Answer.{ConfigRefusal}
use Rattle.setup_keys.specs.Block.{BlockKeys, keys_of_block}
use Rattle.block_config.specs.declared.owning.OwningSetup.{OwningSetup}
use Rattle.block_config.specs.Owning.{OwningKeys, keys_of_owning}

-- What the setup says, field by field, is what was said: every number of every machine, the pins, and each span with its name,
-- its bounds and its stalls. Where nothing was said for a fault, the fault is the same.
abbrev pub SaysExactly : Result Setup ConfigRefusal → Result BlockKeys ConfigRefusal → Type 0
SaysExactly setup said = made keys_of_block setup ≡ said

-- the same of a second block, whose owned pins are the ones that were said
abbrev pub OwnsExactly : Result OwningSetup ConfigRefusal → Result OwningKeys ConfigRefusal → Type 0
OwnsExactly setup said = made keys_of_owning setup ≡ said
