use Rattle.std.proofs.Common.{sym, ap, ◌∙◌}
use Rattle.block_core.specs.Block.{first_run}
use Rattle.block_core.specs.Shown.{sample_of}
use Rattle.span_meter.specs.Measured.{pins_of}
use Rattle.commands.proofs.MetersSeen.{plain_in_run, spoken_in_run}
use Rattle.commands.proofs.measure.metered.Goals as goal

pub returns-then-is_any_selective-clause-seen : goal.returns-then-is_any_selective-clause-seen
unfolding sample_of
returns-then-is_any_selective-clause-seen g c =
    spoken_in_run c.a_plain_span_measures_every_pair.ensures (first_run c.args.setup.now) c.in_ok-block.block.run (pins_of c.view-shown.result.now) c.args.setup.now.spans c.args.schedule.now c.args.clocks _
    (ap (λ b. b.run) c.in_ok-block.ensures) (ap pins_of c.view-shown.ensures) c.in_ok-pairs.ensures.spoken

pub returns-clause-seen : goal.returns-clause-seen
unfolding sample_of
returns-clause-seen g c =
    plain_in_run (first_run c.args.setup.now) c.in_ok-block.block.run (pins_of c.view-shown.result.now) c.args.setup.now.spans c.as_slice.result.now c.args.schedule.now c.args.clocks _
    (ap (λ b. b.run) c.in_ok-block.ensures) (ap pins_of c.view-shown.ensures) c.as_slice.ensures.list (sym c.is_any_selective.ensures ∙ c.if-is_any_selective.false) c.in_ok-meter.ensures.measured
