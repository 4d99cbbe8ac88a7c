use Rattle.std.proofs.Common.{subst}
use Rattle.block_core.specs.Block.{Run}
use Rattle.block_core.specs.Kept.{AreTold}
use Rattle.block_core.proofs.running.Running.a_rest_only_counts.Goals as goal

pub returns-clause-laws : goal.returns-clause-laws
returns-clause-laws g c = record {
  counts = c.a_calm_tick_only_counts.ensures.once;
  tells = c.a_calm_tick_tells_nothing_new.ensures.calm;
  fifos = c.a_quiet_clock_changes_nothing.ensures;
}

pub returns-clause-told : goal.returns-clause-told
returns-clause-told g c = subst (λ (r : Run). AreTold r.memory r.state.machines) c.self.view_is c.self.invariant.0.told
