use Rattle.std.proofs.Common.{rules, ◌≡◌, ◌∙◌, true, Bool, List, ℕ, refl, ap}
use Rattle.std.proofs.lemmas.Result.{on_err_weaker, on_ok_weaker}
use Rattle.block_core.specs.declared.sample.Sample.{Sample}
use Rattle.block_core.specs.Block.{first_run}
use Rattle.block_core.specs.Hosted.{samples}
use Rattle.block_core.specs.Shown.{sample_of}
use Rattle.pin_matrix.specs.Pins.{is_high}
use Rattle.pio_edge.specs.Edge.{PutCounts, Takes}
use Rattle.serial_receiver.specs.Frames.{frames, levels_of}
use Rattle.serial_receiver.specs.FrameText.{frames_text}
use Rattle.serial_receiver.specs.Hearing.{first_heard}
use Rattle.commands.specs.Tasks.{received_text}
use Rattle.commands.proofs.StoppedRuns.{stops_as, takes}
use Rattle.commands.proofs.receive.write_received.Goals as goal

pub returns-clause-ends : goal.returns-clause-ends
unfolding received_text sample_of
returns-clause-ends g c =
    let t = c.new-trace.result in
    let start = c.in_ok-block.block.run in
    let lines = c.args.schedule.now in
    let before = g.O.Sink.taken t.sink.now in
    let after = g.O.Sink.taken c.simulate-put.new.trace.sink.now in
    let heard = first_heard t.pin t.bit t.first before in
    let text : List Sample → Bool → List ℕ = λ told ended. frames_text (frames t.bit t.first (levels_of t.pin told)) in
    let bytes : Takes before (text (samples start lines c.args.clocks) true) after c.simulate-put.result =
    takes c.simulate-put.result before after _ (on_ok_weaker c.simulate-put.result (λ told. (told heard refl t.pin t.bit t.first before refl).text) c.simulate-put.ensures.ok)
    (on_err_weaker c.simulate-put.result (λ stops.
    c.a_stopped_run_leaves_a_first_part.ensures.samples start lines before after text c.args.clocks _ (c.stopping_early_leaves_a_first_part.ensures t.pin t.bit t.first before after)
    (stops_as _ _ _ _ _ _ (λ told ended breaks. breaks heard refl t.pin t.bit t.first before refl) stops)) c.simulate-put.ensures.err) in
    let first : t.first ≡ is_high start.state.levels c.args.line.pin = c.new-trace.ensures.level ∙ c.is_high-first.ensures ∙ ap (λ (s : Sample). is_high s.level c.args.line.pin) c.view.ensures in
    let took : Takes (g.O.Sink.taken c.args.out.now) (received_text (first_run c.args.setup.now) c.args.line.pin c.args.line.bit lines c.args.clocks) after c.simulate-put.result = rw (ap (λ b. b.run) c.in_ok-block.ensures) at (rw first at (rw c.new-trace.ensures.bit at (rw c.new-trace.ensures.pin at (rw c.new-trace.ensures.same at bytes)))) in
    let cause : PutCounts (g.O.Sink.faults c.args.out.now) (g.O.Sink.faults c.simulate-put.new.trace.sink.now) c.simulate-put.result = rw c.new-trace.ensures.same at c.simulate-put.ensures.cause in
    search (rules, took, cause)
