use Rattle.std.proofs.Common.{rules, refl, ap}
use Rattle.std.proofs.lemmas.Result.{on_err_weaker, on_ok_weaker}
use Rattle.block_core.specs.HostedTwin.{twin_samples}
use Rattle.pio_edge.specs.Edge.{PutCounts, Takes}
use Rattle.vcd_trace.specs.TwinText.{twin_text_of, twin_text}
use Rattle.commands.specs.Tasks.{twin_start, twin_trace_text}
use Rattle.commands.proofs.StoppedRuns.{stops_as, takes}
use Rattle.commands.proofs.pair.write_pair.Goals as goal

pub returns-clause-ends : goal.returns-clause-ends
unfolding twin_trace_text
returns-clause-ends g c =
    let start = c.in_ok-twin.twin.twin in
    let first = c.args.blocks.now.first_lines in
    let second = c.args.blocks.now.second_lines in
    let before = g.O.Sink.taken c.new-trace.result.sink.now in
    let after = g.O.Sink.taken c.simulate_twin-put.new.trace.sink.now in
    let bytes : Takes before (twin_text (twin_samples start first second c.args.clocks)) after c.simulate_twin-put.result =
    takes c.simulate_twin-put.result before after _ (on_ok_weaker c.simulate_twin-put.result (λ told. (told before refl).text) c.simulate_twin-put.ensures.ok)
    (on_err_weaker c.simulate_twin-put.result (λ stops.
    c.a_stopped_run_leaves_a_first_part.ensures.twin start first second before after twin_text_of c.args.clocks _ (c.failing_early_leaves_a_first_part_of_two.ensures before after)
    (stops_as _ _ _ _ _ _ (λ told ended breaks. breaks before refl) stops)) c.simulate_twin-put.ensures.err) in
    let took : Takes (g.O.Sink.taken c.args.out.now) (twin_trace_text (twin_start c.args.blocks.now) first second c.args.clocks) after c.simulate_twin-put.result = rw (ap (λ t. t.twin) c.in_ok-twin.ensures) at (rw c.new-trace.ensures.same at bytes) in
    let cause : PutCounts (g.O.Sink.faults c.args.out.now) (g.O.Sink.faults c.simulate_twin-put.new.trace.sink.now) c.simulate_twin-put.result = rw c.new-trace.ensures.same at c.simulate_twin-put.ensures.cause in
    search (rules, took, cause)
