use Rattle.block_core.proofs.Unused.{requests_stay}
use Rattle.block_core.proofs.laws.unused_fifos_ask_as_before.Goals as goal

pub returns : goal.returns
returns c = requests_stay c.a_quiet_clock_changes_nothing.ensures
