use Rattle.std.proofs.Common.{◌≡◌, ◌-◌, false, subst, sym, ap, ◌∙◌, arith}
use Rattle.dreq_pacing.specs.Due.{quiet}
use Rattle.block_core.specs.Block.{Run, Worked, run_from}
use Rattle.block_core.specs.Leaps.{leapt}
use Rattle.block_core.specs.Stirring.{moves_on}
use Rattle.block_core.proofs.NextStirs.{machines_calm}
use Rattle.block_core.proofs.LeaptRun.{rests}
use Rattle.block_core.proofs.Steps.{clock-leapt}
use Rattle.block_core.proofs.block.Block.leap.Goals as goal

pub leap-requires-clause-calm : goal.leap-requires-clause-calm
leap-requires-clause-calm g c = λ k lt.
    machines_calm c.a_rest_only_counts.ensures.laws c.self.inside.running c.self.inside.pad c.args.clocks c.self.invariant.1 c.a_rest_only_counts.ensures.told
    (λ j below. subst (λ (w : Worked). moves_on quiet (run_from w.run (λ c. quiet) j) ≡ false) (sym c.self.view_is) (c.requires.calm j below)) k lt

pub invariant_of-self : goal.invariant_of-self
invariant_of-self g c =
    let clock = ap (λ (r : Run). r.clock) c.leap.ensures ∙ clock-leapt c.args.clocks c.self.inside.running in
    (omega (arith, clock, c.self.invariant.0), c.pads-self-inside.ensures)

pub returns-clause-run : goal.returns-clause-run
returns-clause-run g c =
    c.leap.ensures
    ∙ sym (rests c.a_rest_only_counts.ensures.laws c.self.inside.running c.a_rest_only_counts.ensures.told c.args.clocks
    (λ j below. subst (λ (w : Worked). moves_on quiet (run_from w.run (λ c. quiet) j) ≡ false) (sym c.self.view_is) (c.requires.calm j below)))
    ∙ ap (λ (w : Worked). run_from w.run (λ c. quiet) c.args.clocks) c.self.view_is

pub returns-clause-rests : goal.returns-clause-rests
returns-clause-rests g c = λ k le.
    subst (λ (w : Worked). run_from w.run (λ c. quiet) k ≡ leapt k w.run) c.self.view_is
    (rests c.a_rest_only_counts.ensures.laws c.self.inside.running c.a_rest_only_counts.ensures.told k
    (λ j lt. subst (λ (w : Worked). moves_on quiet (run_from w.run (λ c. quiet) j) ≡ false) (sym c.self.view_is) (c.requires.calm j (omega (arith, lt, le)))))

pub returns-clause-calls : goal.returns-clause-calls
returns-clause-calls g c =
    let clock = ap (λ (r : Run). r.clock) c.leap.ensures ∙ clock-leapt c.args.clocks c.self.inside.running in
    let calls : c.self.inside.running.clock - c.self.inside.leapt ≡ c.args.self.now.calls = ap (λ (w : Worked). w.calls) c.self.view_is in
    omega (arith, clock, calls, c.self.invariant.0)
