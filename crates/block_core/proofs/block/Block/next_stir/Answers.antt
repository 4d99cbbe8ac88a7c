use Rattle.std.proofs.Common.{false, Some, subst, sym, ◌∙◌, refl}
use Rattle.dreq_pacing.specs.Due.{quiet}
use Rattle.dreq_pacing.specs.Ports.{IsFirst}
use Rattle.block_core.specs.Block.{Worked, run_from}
use Rattle.block_core.specs.Stirring.{moves_on}
use Rattle.block_core.proofs.NextStirs.{first_moves, moves_at_once}
use Rattle.block_core.proofs.block.Block.next_stir.Goals as goal

pub returns-then-pads_change : goal.returns-then-pads_change
returns-then-pads_change g c = record {
  first = subst (λ (w : Worked). IsFirst (λ n. moves_on quiet (run_from w.run (λ c. quiet) n)) 0 (Some 0)) c.self.view_is
      (moves_at_once c.self.inside.running c.self.inside.pad c.self.invariant.1 (sym c.pads_change.ensures ∙ c.if-pads_change.true));
}

pub returns : goal.returns
returns g c =
    record {
      first = subst (λ (w : Worked). IsFirst (λ n. moves_on quiet (run_from w.run (λ c. quiet) n)) 0 c.next_stir.result) c.self.view_is
          (first_moves c.a_rest_only_counts.ensures.laws c.self.inside.running c.self.inside.pad c.next_stir.result c.self.invariant.1 (sym c.pads_change.ensures ∙ c.if-pads_change.false) c.a_rest_only_counts.ensures.told
          (c.next_stir.ensures (λ n. false) (λ n le. refl)));
    }
