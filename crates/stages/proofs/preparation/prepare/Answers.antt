use Rattle.std.proofs.Common.{[], map, option_map}
use Rattle.std.proofs.lemmas.Result.{err_from_is_err_and}
use Rattle.pio_assemble.specs.Program.{assembled_of}
use Rattle.stages.specs.Stages.{run_plan}
use Rattle.stages.proofs.Parts.{went_nowhere, went_on, came_to, goes_right}
use Rattle.stages.proofs.Preparing.{prepared, source_fails, setup_fails, lines_fail}
use Rattle.stages.proofs.preparation.prepare.Goals as goal

pub returns-in_err-programs-clause-plan : goal.returns-in_err-programs-clause-plan
returns-in_err-programs-clause-plan g c =
    let p = err_from_is_err_and c.from_residual.result c.from_residual.ensures.1 in
    rw (p.1, p.2) (source_fails g.F.Shelf c.args.files.source.now (option_map (λ t. t.now) c.args.files.config)
    (option_map (λ t. t.now) c.args.files.stimulus) _ _ _ _ _ c.in_err-programs.ensures)

pub returns-in_err-setup-clause-plan : goal.returns-in_err-setup-clause-plan
returns-in_err-setup-clause-plan g c =
    let p = err_from_is_err_and c.from_residual-in_err-setup.result c.from_residual-in_err-setup.ensures.1 in
    let source = went_on g.F.Shelf [] _ _ _ _ _ _ (went_nowhere g.F.Shelf _) c.in_ok-programs.ensures in
    rw (p.1, p.2) (setup_fails g.F.Shelf c.args.files.source.now (option_map (λ t. t.now) c.args.files.config)
    (option_map (λ t. t.now) c.args.files.stimulus) (map assembled_of c.in_ok-programs.programs.items) _ _ _ _ _ _
    c.in_ok-programs.ensures.stage.1 source (rw c.deref.ensures.value at c.in_err-setup.ensures.plan))

pub returns-in_err-schedule-clause-plan : goal.returns-in_err-schedule-clause-plan
returns-in_err-schedule-clause-plan g c =
    let p = err_from_is_err_and c.from_residual-in_err-schedule.result c.from_residual-in_err-schedule.ensures.1 in
    let set = rw c.deref.ensures.value at c.in_ok-setup.ensures.plan in
    let source = went_on g.F.Shelf [] _ _ _ _ _ _ (went_nowhere g.F.Shelf _) c.in_ok-programs.ensures in
    let both = went_on g.F.Shelf _ _ _ _ _ _ _ source set in
    rw (p.1, p.2) (lines_fail g.F.Shelf c.args.files.source.now (option_map (λ t. t.now) c.args.files.config)
    (option_map (λ t. t.now) c.args.files.stimulus) (map assembled_of c.in_ok-programs.programs.items) c.in_ok-setup.setup _ _ _ _ _ _
    c.in_ok-programs.ensures.stage.1 (came_to g.F.Shelf _ _ _ _ source set.stage.1) both c.in_err-schedule.ensures)

pub returns-clause-plan : goal.returns-clause-plan
returns-clause-plan g c =
    let set = rw c.deref.ensures.value at c.in_ok-setup.ensures.plan in
    let source = went_on g.F.Shelf [] _ _ _ _ _ _ (went_nowhere g.F.Shelf _) c.in_ok-programs.ensures in
    let both = went_on g.F.Shelf _ _ _ _ _ _ _ source set in
    goes_right g.F.Shelf (run_plan c.args.files.source.now (option_map (λ t. t.now) c.args.files.config)
    (option_map (λ t. t.now) c.args.files.stimulus)) _ _ _ _ (went_on g.F.Shelf _ _ _ _ _ _ _ both c.in_ok-schedule.ensures)
    (prepared _ c.args.files.source.now (option_map (λ t. t.now) c.args.files.config) (option_map (λ t. t.now) c.args.files.stimulus) _ _ _
    c.in_ok-programs.ensures.stage.1 (came_to g.F.Shelf _ _ _ _ source set.stage.1)
    (came_to g.F.Shelf _ _ _ _ both c.in_ok-schedule.ensures.stage.1))
