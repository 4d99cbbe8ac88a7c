use Rattle.std.proofs.Common.{[], map, option_map}
use Rattle.std.proofs.lemmas.Result.{err_from_is_err_and}
use Rattle.pio_assemble.specs.Program.{assembled_of}
use Rattle.stages.specs.Stages.{pair_plan}
use Rattle.stages.proofs.Parts.{went_nowhere, went_on, came_to, goes_right}
use Rattle.stages.proofs.PreparingPair.{paired, source_fails, first_fails, second_fails, lines_fail}
use Rattle.stages.proofs.pair.prepare_pair.Goals as goal

pub returns-in_err-programs-clause-plan : goal.returns-in_err-programs-clause-plan
returns-in_err-programs-clause-plan g c =
    let p = err_from_is_err_and c.from_residual.result c.from_residual.ensures.1 in
    rw (p.1, p.2) (source_fails g.F.Shelf c.args.files.source.now c.args.files.config.now c.args.files.second.now
    (option_map (λ t. t.now) c.args.files.stimulus) _ _ _ _ _ c.in_err-programs.ensures)

pub returns-in_err-first-clause-plan : goal.returns-in_err-first-clause-plan
returns-in_err-first-clause-plan g c =
    let p = err_from_is_err_and c.from_residual-in_err-first.result c.from_residual-in_err-first.ensures.1 in
    let source = went_on g.F.Shelf [] _ _ _ _ _ _ (went_nowhere g.F.Shelf _) c.in_ok-programs.ensures in
    rw (p.1, p.2) (first_fails g.F.Shelf c.args.files.source.now c.args.files.config.now c.args.files.second.now
    (option_map (λ t. t.now) c.args.files.stimulus) (map assembled_of c.in_ok-programs.programs.items) _ _ _ _ _ _
    c.in_ok-programs.ensures.stage.1 source (rw c.deref.ensures.value at c.in_err-first.ensures.plan))

pub returns-in_err-second-clause-plan : goal.returns-in_err-second-clause-plan
returns-in_err-second-clause-plan g c =
    let p = err_from_is_err_and c.from_residual-in_err-second.result c.from_residual-in_err-second.ensures.1 in
    let set = rw c.deref.ensures.value at c.in_ok-first.ensures.plan in
    let source = went_on g.F.Shelf [] _ _ _ _ _ _ (went_nowhere g.F.Shelf _) c.in_ok-programs.ensures in
    let both = went_on g.F.Shelf _ _ _ _ _ _ _ source set in
    rw (p.1, p.2) (second_fails g.F.Shelf c.args.files.source.now c.args.files.config.now c.args.files.second.now
    (option_map (λ t. t.now) c.args.files.stimulus) (map assembled_of c.in_ok-programs.programs.items) c.in_ok-first.first _ _ _ _ _ _
    c.in_ok-programs.ensures.stage.1 (came_to g.F.Shelf _ _ _ _ source set.stage.1) both
    (rw c.deref-2.ensures.value at c.in_err-second.ensures.plan))

pub returns-in_err-lines-clause-plan : goal.returns-in_err-lines-clause-plan
returns-in_err-lines-clause-plan g c =
    let p = err_from_is_err_and c.from_residual-in_err-lines.result c.from_residual-in_err-lines.ensures.1 in
    let set = rw c.deref.ensures.value at c.in_ok-first.ensures.plan in
    let owned = rw c.deref-2.ensures.value at c.in_ok-second.ensures.plan in
    let source = went_on g.F.Shelf [] _ _ _ _ _ _ (went_nowhere g.F.Shelf _) c.in_ok-programs.ensures in
    let both = went_on g.F.Shelf _ _ _ _ _ _ _ source set in
    let three = went_on g.F.Shelf _ _ _ _ _ _ _ both owned in
    rw (p.1, p.2) (lines_fail g.F.Shelf c.args.files.source.now c.args.files.config.now c.args.files.second.now
    (option_map (λ t. t.now) c.args.files.stimulus) (map assembled_of c.in_ok-programs.programs.items) c.in_ok-first.first c.in_ok-second.second
    _ _ _ _ _ _ c.in_ok-programs.ensures.stage.1 (came_to g.F.Shelf _ _ _ _ source set.stage.1)
    (came_to g.F.Shelf _ _ _ _ both owned.stage.1) three c.in_err-lines.ensures)

pub returns-clause-plan : goal.returns-clause-plan
returns-clause-plan g c =
    let set = rw c.deref.ensures.value at c.in_ok-first.ensures.plan in
    let owned = rw c.deref-2.ensures.value at c.in_ok-second.ensures.plan in
    let source = went_on g.F.Shelf [] _ _ _ _ _ _ (went_nowhere g.F.Shelf _) c.in_ok-programs.ensures in
    let both = went_on g.F.Shelf _ _ _ _ _ _ _ source set in
    let three = went_on g.F.Shelf _ _ _ _ _ _ _ both owned in
    goes_right g.F.Shelf (pair_plan c.args.files.source.now c.args.files.config.now c.args.files.second.now
    (option_map (λ t. t.now) c.args.files.stimulus)) _ _ _ _ (went_on g.F.Shelf _ _ _ _ _ _ _ three c.in_ok-lines.ensures)
    (paired _ c.args.files.source.now c.args.files.config.now c.args.files.second.now (option_map (λ t. t.now) c.args.files.stimulus) _ _ _ _
    c.in_ok-programs.ensures.stage.1 (came_to g.F.Shelf _ _ _ _ source set.stage.1) (came_to g.F.Shelf _ _ _ _ both owned.stage.1)
    (came_to g.F.Shelf _ _ _ _ three c.in_ok-lines.ensures.stage.1))
