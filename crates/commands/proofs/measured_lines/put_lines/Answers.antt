use Rattle.std.proofs.Common.{◌∙◌}
use Rattle.pio_edge.proofs.PutLaws.{going_ends, going_on, takes_failed}
use Rattle.span_meter.specs.SeenText.{seen_line}
use Rattle.commands.specs.Metered.{seen_of_each}
use Rattle.commands.proofs.SpanLines.{span_lines-end, span_lines-turn}
use Rattle.commands.proofs.measured_lines.put_lines.Goals as goal

pub returns-in_err-put_line-clause-bytes : goal.returns-in_err-put_line-clause-bytes
returns-in_err-put_line-clause-bytes g c =
    takes_failed _ _ _ _ _ _ _ c.from_residual.result c.loop-place.invariant.going
    (span_lines-turn (λ sp s. seen_line sp.name s) c.args.spans.now (seen_of_each c.args.meter.now) c.loop-place.place c.index-spans-place.result
    c.seen.result c.loop-place-test.true c.index-spans-place.is c.seen.ensures)
    c.from_residual.ensures.0 c.in_err-put_line.ensures.bytes

pub loop-place-preserved : goal.loop-place-preserved
loop-place-preserved g c = record {
  going = going_on _ _ _ _ _ _ _ c.loop-place.invariant.going
      (span_lines-turn (λ sp s. seen_line sp.name s) c.args.spans.now (seen_of_each c.args.meter.now) c.loop-place.place c.index-spans-place.result
      c.seen.result c.loop-place-test.true c.index-spans-place.is c.seen.ensures) c.in_ok-put_line.ensures.bytes;
  count = c.in_ok-put_line.ensures.cause.ok ∙ c.loop-place.invariant.count;
}

pub returns-clause-bytes : goal.returns-clause-bytes
returns-clause-bytes g c =
    going_ends _ _ _ (rw (span_lines-end (λ sp s. seen_line sp.name s) c.args.spans.now (seen_of_each c.args.meter.now) c.loop-place.place c.loop-place-test.false) at c.loop-place.invariant.going)
