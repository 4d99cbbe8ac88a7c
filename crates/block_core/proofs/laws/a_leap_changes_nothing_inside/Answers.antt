use Rattle.block_core.proofs.Insides.{inside_leaps}
use Rattle.block_core.proofs.laws.a_leap_changes_nothing_inside.Goals as goal

pub returns : goal.returns
returns c = inside_leaps
