use Rattle.std.proofs.Common.{None, [], map, option_map, refl}
use Rattle.std.proofs.lemmas.Result.{err_from_is_err_and}
use Rattle.pio_assemble.specs.Program.{assembled_of}
use Rattle.stages.proofs.Parts.{of_all, went_nowhere, went_on, came_to}
use Rattle.stages.proofs.Preparing.{prepared, source_fails, setup_fails}
use Rattle.stages.proofs.preparation.prepare_setup.Goals as goal

pub returns-in_err-programs-clause-plan : goal.returns-in_err-programs-clause-plan
returns-in_err-programs-clause-plan g c =
    let p = err_from_is_err_and c.from_residual.result c.from_residual.ensures.1 in
    rw (p.1, p.2) (source_fails g.F.Shelf c.args.source.now (option_map (λ t. t.now) c.args.config) None _ _ _ _ _ c.in_err-programs.ensures)

pub returns-in_err-setup-clause-plan : goal.returns-in_err-setup-clause-plan
returns-in_err-setup-clause-plan g c =
    let p = err_from_is_err_and c.from_residual-in_err-setup.result c.from_residual-in_err-setup.ensures.1 in
    let source = went_on g.F.Shelf [] _ _ _ _ _ _ (went_nowhere g.F.Shelf _) c.in_ok-programs.ensures in
    rw (p.1, p.2) (setup_fails g.F.Shelf c.args.source.now (option_map (λ t. t.now) c.args.config) None
    (map assembled_of c.in_ok-programs.programs.items) _ _ _ _ _ _
    c.in_ok-programs.ensures.stage.1 source (rw c.deref.ensures.value at c.in_err-setup.ensures.plan))

pub returns-clause-plan : goal.returns-clause-plan
returns-clause-plan g c =
    let set = rw c.deref.ensures.value at c.in_ok-setup.ensures.plan in
    let source = went_on g.F.Shelf [] _ _ _ _ _ _ (went_nowhere g.F.Shelf _) c.in_ok-programs.ensures in
    let both = went_on g.F.Shelf _ _ _ _ _ _ _ source set in
    record {
      same = both.same;
      stage = (
        both.quiet,
        prepared _ c.args.source.now (option_map (λ t. t.now) c.args.config) None _ _ _
            c.in_ok-programs.ensures.stage.1 (came_to g.F.Shelf _ _ _ _ source set.stage.1) (of_all _ _ (λ f. refl)),
      );
      asked = both.asked;
    }
