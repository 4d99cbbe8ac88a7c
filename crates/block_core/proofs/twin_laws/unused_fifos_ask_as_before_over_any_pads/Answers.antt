use Rattle.block_core.proofs.Unused.{requests_stay_over}
use Rattle.block_core.proofs.twin_laws.unused_fifos_ask_as_before_over_any_pads.Goals as goal

pub returns : goal.returns
returns c = requests_stay_over c.a_quiet_clock_changes_nothing.ensures
