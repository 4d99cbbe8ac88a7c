use Rattle.std.proofs.Common.{◌≡◌, [], ◌∷◌, Some, ap, ◌∙◌, refl, lit<}
use Rattle.block_core.specs.Hosted.{hosted_at, samples}
use Rattle.block_core.specs.Shown.{sample_of}
use Rattle.sample_trace.specs.Edges.{HasCounted}
use Rattle.drawn_load.specs.Counted.{counted_run}
use Rattle.drawn_load.proofs.Counting.{pin_counted, sent_counted, got_counted, same_summary}
use Rattle.drawn_load.proofs.run.counted.Goals as goal

pub returns-clause-summary : goal.returns-clause-summary
unfolding sample_of counted_run
returns-clause-summary g c =
    let start = c.args.block.now.run in
    let lines = c.args.schedule.now in
    let n = c.args.clocks in
    let first = c.new-trace.result.first in
    let is_first : first ≡ start.state.levels = ap (λ t. t.first) c.new-trace.ensures ∙ ap (λ s. s.level) c.view.ensures in
    let told : HasCounted first (samples start lines n) c.simulate.new.trace = c.in-Ok.ensures.ok (Some (first ∷ [])) refl first refl in
    let edges = c.simulate.new.trace.counts in
    let within = c.requires.within in
    let end = (hosted_at start lines n).run in
    same_summary n
    (pin_counted 0 start.state.levels first start lines n c.edges.result edges within is_first c.edges.ensures (told.edges 0 (lit< tt)))
    (pin_counted 1 start.state.levels first start lines n c.edges-2.result edges within is_first c.edges-2.ensures (told.edges 1 (lit< tt)))
    (pin_counted 3 start.state.levels first start lines n c.edges-3.result edges within is_first c.edges-3.ensures (told.edges 3 (lit< tt)))
    (sent_counted 1 c.simulate.new.block.run end c.moved-sent.result c.moved-sent.ensures c.in-Ok.ensures.run)
    (got_counted 2 c.simulate.new.block.run end c.moved-got.result c.moved-got.ensures c.in-Ok.ensures.run)
