use Rattle.std.proofs.Common.{rules, refl, ap}
use Rattle.std.proofs.lemmas.Result.{on_err_weaker, on_ok_weaker}
use Rattle.block_core.specs.Block.{first_run}
use Rattle.block_core.specs.Hosted.{samples}
use Rattle.pio_edge.specs.Edge.{PutCounts, Takes}
use Rattle.vcd_trace.specs.VcdText.{text_of, vcd_text}
use Rattle.commands.specs.Tasks.{trace_text}
use Rattle.commands.proofs.StoppedRuns.{stops_as, takes}
use Rattle.commands.proofs.run.write_trace.Goals as goal

pub returns-clause-ends : goal.returns-clause-ends
unfolding trace_text
returns-clause-ends g c =
    let start = c.in_ok-block.block.run in
    let lines = c.args.schedule.now in
    let before = g.O.Sink.taken c.new-trace.result.sink.now in
    let after = g.O.Sink.taken c.simulate-put.new.trace.sink.now in
    let bytes : Takes before (vcd_text (samples start lines c.args.clocks)) after c.simulate-put.result =
    takes c.simulate-put.result before after _ (on_ok_weaker c.simulate-put.result (λ told. (told before refl).text) c.simulate-put.ensures.ok)
    (on_err_weaker c.simulate-put.result (λ stops.
    c.a_stopped_run_leaves_a_first_part.ensures.samples start lines before after text_of c.args.clocks _ (c.failing_early_leaves_a_first_part.ensures before after)
    (stops_as _ _ _ _ _ _ (λ told ended breaks. breaks before refl) stops)) c.simulate-put.ensures.err) in
    let took : Takes (g.O.Sink.taken c.args.out.now) (trace_text (first_run c.args.setup.now) lines c.args.clocks) after c.simulate-put.result = rw (ap (λ b. b.run) c.in_ok-block.ensures) at (rw c.new-trace.ensures.same at bytes) in
    let cause : PutCounts (g.O.Sink.faults c.args.out.now) (g.O.Sink.faults c.simulate-put.new.trace.sink.now) c.simulate-put.result = rw c.new-trace.ensures.same at c.simulate-put.ensures.cause in
    search (rules, took, cause)
