use Rattle.std.proofs.Common.{rules, refl, ap}
use Rattle.std.proofs.lemmas.Result.{on_err_weaker, on_ok_weaker}
use Rattle.block_core.specs.Inside.{insides}
use Rattle.pio_edge.specs.Edge.{PutCounts, Takes}
use Rattle.vcd_trace.specs.InsideText.{inside_text, inside_text_of}
use Rattle.vcd_trace.specs.InsideTold.{told_first}
use Rattle.commands.specs.Tasks.{inspected_text}
use Rattle.commands.proofs.StoppedRuns.{stops_as, takes}
use Rattle.commands.proofs.inspect.write_inspected.Goals as goal

pub returns-clause-ends : goal.returns-clause-ends
unfolding inspected_text
returns-clause-ends g c =
    let t = c.new-trace.result in
    let start = c.in_ok-block.block.run in
    let lines = c.args.schedule.now in
    let before = g.O.Sink.taken t.sink.now in
    let after = g.O.Sink.taken c.simulate_inside-put.new.trace.sink.now in
    let names = told_first t.configured before in
    let bytes : Takes before (inside_text t.configured (insides start lines c.args.clocks)) after c.simulate_inside-put.result =
    takes c.simulate_inside-put.result before after _ (on_ok_weaker c.simulate_inside-put.result (λ told. (told names refl t.configured before refl).text) c.simulate_inside-put.ensures.ok)
    (on_err_weaker c.simulate_inside-put.result (λ stops.
    c.a_stopped_run_leaves_a_first_part.ensures.insides start lines before after (inside_text_of t.configured) c.args.clocks _ (c.failing_early_leaves_a_first_part_of_what_is_inside.ensures t.configured before after)
    (stops_as _ _ _ _ _ _ (λ told ended breaks. breaks names refl t.configured before refl) stops)) c.simulate_inside-put.ensures.err) in
    let took : Takes (g.O.Sink.taken c.args.out.now) (inspected_text c.args.setup.now lines c.args.clocks) after c.simulate_inside-put.result = rw (ap (λ b. b.run) c.in_ok-block.ensures) at (rw c.configured.ensures at (rw c.new-trace.ensures.configured at (rw c.new-trace.ensures.same at bytes))) in
    let cause : PutCounts (g.O.Sink.faults c.args.out.now) (g.O.Sink.faults c.simulate_inside-put.new.trace.sink.now) c.simulate_inside-put.result = rw c.new-trace.ensures.same at c.simulate_inside-put.ensures.cause in
    search (rules, took, cause)
