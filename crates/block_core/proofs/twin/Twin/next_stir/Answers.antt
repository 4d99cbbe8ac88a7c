use Rattle.std.proofs.Common.{◌||◌, false, subst, sym, ap, ◌∙◌, refl}
use Rattle.dreq_pacing.specs.Due.{quiet}
use Rattle.dreq_pacing.specs.Ports.{IsFirst}
use Rattle.block_core.specs.Leaps.{leapt}
use Rattle.block_core.specs.Stirring.{machines_stir_over}
use Rattle.block_core.specs.Twin.{WorkedTwin, TwinRun, twin_pads_in, twin_pads_change, twin_from, twin_moves_on}
use Rattle.block_core.proofs.LeaptTwin.{AreBothTold, twin_first_moves, twin_moves_at_once}
use Rattle.block_core.proofs.twin.Twin.next_stir.Goals as goal

pub returns-then-pads_change : goal.returns-then-pads_change
returns-then-pads_change g c = record {
  first = twin_moves_at_once c.args.self.now.twin c.pads-pad.result c.pads-pad.ensures (sym c.pads_change.ensures ∙ c.if-pads_change.true);
}

pub returns : goal.returns
returns g c =
    let b = c.self.inside in
    let t : TwinRun = record { own = b.own; first = b.first; second = b.second } in
    let told : AreBothTold t = record { first = c.a_rest_only_counts.ensures.told; second = c.a_rest_only_counts-2.ensures.told } in
    let one = c.next_stir-first.ensures (λ n. false) (λ n le. refl) in
    let two = c.next_stir.ensures (λ n. false || machines_stir_over c.pads-pad.result quiet (leapt n b.first)) one in
    record {
      first = subst (λ (w : WorkedTwin). IsFirst (λ n. twin_moves_on quiet quiet (twin_from w.twin (λ c. quiet) (λ c. quiet) n)) 0 c.next_stir.result) c.self.view_is
          (twin_first_moves c.a_rest_only_counts.ensures.laws t c.pads-pad.result c.next_stir.result (c.pads-pad.ensures ∙ ap (λ (w : WorkedTwin). twin_pads_in quiet w.twin) (sym c.self.view_is)) (ap (λ (w : WorkedTwin). twin_pads_change c.pads-pad.result w.twin) c.self.view_is ∙ sym c.pads_change.ensures ∙ c.if-pads_change.false) told two);
    }
