use Rattle.std.proofs.Common.{◌≡◌, ◌≤◌, ◌+◌, ap, ap₂, subst, ◌∙◌}
use Rattle.block_core.specs.Block.{first_run}
use Rattle.idle_engine.specs.Worked.{worked_in}
use Rattle.drawn_load.specs.Summaries.{start_of}
use Rattle.drawn_load.specs.Counted.{counted_run}
use Rattle.drawn_load.proofs.Moves.{run_is}
use Rattle.drawn_load.proofs.run.summarise.Goals as goal

pub returns-clause-summary : goal.returns-clause-summary
returns-clause-summary g c =
    let seed = c.args.seed in
    let start : c.in_ok-block.block.run ≡ start_of seed = ap (λ b. b.run) c.in_ok-block.ensures ∙ ap first_run c.in_ok-load.ensures.setup in
    c.counted.ensures.summary
    ∙ ap₂ (λ run lines. counted_run run lines c.args.clocks) start c.in_ok-load.ensures.schedule
    ∙ run_is seed c.args.clocks

pub returns-clause-steps : goal.returns-clause-steps
returns-clause-steps g c =
    let seed = c.args.seed in
    let clocks = c.args.clocks in
    let start : c.in_ok-block.block.run ≡ start_of seed = ap (λ b. b.run) c.in_ok-block.ensures ∙ ap first_run c.in_ok-load.ensures.setup in
    subst (λ n. c.counted.new.steps ≤ c.args.steps.now + n)
    (ap₂ (λ run lines. worked_in run lines clocks) start c.in_ok-load.ensures.schedule)
    c.counted.ensures.steps
