use Rattle.std.proofs.Common.{◌≡◌, ℕ, ◌+◌, false, subst, sym, ap, ◌∙◌, arith}
use Rattle.dreq_pacing.specs.Due.{quiet}
use Rattle.block_core.specs.Block.{Run}
use Rattle.block_core.specs.Twin.{WorkedTwin, TwinRun, twin_pads_in, twin_from, twin_moves_on, leapt_twin}
use Rattle.block_core.proofs.Steps.{clock-leapt}
use Rattle.block_core.proofs.LeaptTwin.{AreBothTold, twin_leaps, twin_machines_calm}
use Rattle.block_core.proofs.twin.Twin.leap.Goals as goal

pub leap-requires-clause-calm : goal.leap-requires-clause-calm
leap-requires-clause-calm g c = λ k lt.
    let b = c.self.inside in
    let t : TwinRun = record { own = b.own; first = b.first; second = b.second } in
    let told : AreBothTold t = record { first = c.a_rest_only_counts.ensures.told; second = c.a_rest_only_counts-2.ensures.told } in
    (twin_machines_calm c.a_rest_only_counts.ensures.laws t c.pads-pad.result c.args.clocks (c.pads-pad.ensures ∙ ap (λ (w : WorkedTwin). twin_pads_in quiet w.twin) (sym c.self.view_is)) told
    (λ j below. subst (λ (w : WorkedTwin). twin_moves_on quiet quiet (twin_from w.twin (λ c. quiet) (λ c. quiet) j) ≡ false) (sym c.self.view_is) (c.requires.calm j below)) k lt).first

pub leap-requires-2-clause-calm : goal.leap-requires-2-clause-calm
leap-requires-2-clause-calm g c = λ k lt.
    let b = c.self.inside in
    let t : TwinRun = record { own = b.own; first = b.first; second = b.second } in
    let told : AreBothTold t = record { first = c.a_rest_only_counts.ensures.told; second = c.a_rest_only_counts-2.ensures.told } in
    (twin_machines_calm c.a_rest_only_counts.ensures.laws t c.pads-pad.result c.args.clocks (c.pads-pad.ensures ∙ ap (λ (w : WorkedTwin). twin_pads_in quiet w.twin) (sym c.self.view_is)) told
    (λ j below. subst (λ (w : WorkedTwin). twin_moves_on quiet quiet (twin_from w.twin (λ c. quiet) (λ c. quiet) j) ≡ false) (sym c.self.view_is) (c.requires.calm j below)) k lt).second

pub leap-requires-2-clause-clock : goal.leap-requires-2-clause-clock
leap-requires-2-clause-clock g c =
    let clock = ap (λ (w : WorkedTwin). w.twin.first.clock) c.self.view_is in
    omega (arith, clock, c.self.invariant.same, c.requires.clock)

pub invariant_of-self : goal.invariant_of-self
invariant_of-self g c =
    let b = c.self.inside in
    let one = ap (λ (r : Run). r.clock) c.leap.ensures ∙ clock-leapt c.args.clocks b.first in
    let other = ap (λ (r : Run). r.clock) c.leap-2.ensures ∙ clock-leapt c.args.clocks b.second in
    record {
      calls = omega (arith, one, c.self.invariant.calls);
      same = other ∙ ap (λ (n : ℕ). n + c.args.clocks) c.self.invariant.same ∙ sym one;
    }

pub returns-clause-twin : goal.returns-clause-twin
returns-clause-twin g c =
    let b = c.self.inside in
    let t : TwinRun = record { own = b.own; first = b.first; second = b.second } in
    let told : AreBothTold t = record { first = c.a_rest_only_counts.ensures.told; second = c.a_rest_only_counts-2.ensures.told } in
    rw (c.leap.ensures, c.leap-2.ensures)
    (sym (twin_leaps c.a_rest_only_counts.ensures.laws t told c.args.clocks
    (λ j below. subst (λ (w : WorkedTwin). twin_moves_on quiet quiet (twin_from w.twin (λ c. quiet) (λ c. quiet) j) ≡ false) (sym c.self.view_is) (c.requires.calm j below)))
    ∙ ap (λ (w : WorkedTwin). twin_from w.twin (λ c. quiet) (λ c. quiet) c.args.clocks) c.self.view_is)

pub returns-clause-rests : goal.returns-clause-rests
returns-clause-rests g c = λ k le.
    let b = c.self.inside in
    let t : TwinRun = record { own = b.own; first = b.first; second = b.second } in
    let told : AreBothTold t = record { first = c.a_rest_only_counts.ensures.told; second = c.a_rest_only_counts-2.ensures.told } in
    subst (λ (w : WorkedTwin). twin_from w.twin (λ c. quiet) (λ c. quiet) k ≡ leapt_twin k w.twin) c.self.view_is
    (twin_leaps c.a_rest_only_counts.ensures.laws t told k
    (λ j below. subst (λ (w : WorkedTwin). twin_moves_on quiet quiet (twin_from w.twin (λ c. quiet) (λ c. quiet) j) ≡ false) (sym c.self.view_is) (c.requires.calm j (omega (arith, below, le)))))
