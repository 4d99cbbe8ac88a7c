use Rattle.std.proofs.Common.{◌∙◌, [], sym}
use Rattle.std.proofs.lemmas.Option.{slice_get_read}
use Rattle.pio_edge.proofs.PutLaws.{going_ends, going_on, takes_failed}
use Rattle.span_texts.specs.VerdictLines.{verdict_line}
use Rattle.commands.proofs.SpanLines.{span_lines-end, span_lines-turn}
use Rattle.commands.proofs.check.put_verdicts.Goals as goal

pub returns-in_err-put_line-clause-bytes : goal.returns-in_err-put_line-clause-bytes
returns-in_err-put_line-clause-bytes g c =
    takes_failed _ _ _ _ _ _ _ c.from_residual.result c.loop-place.invariant.going
    (span_lines-turn (λ sp v. verdict_line [] sp.name v) c.args.spans.now c.args.found.now c.loop-place.place c.index-spans-place.result
    c.index-found-place.result c.loop-place-test.true c.index-spans-place.is
    (slice_get_read _ _ _ _ (sym c.requires) c.loop-place-test.true c.index-found-place.is))
    c.from_residual.ensures.0 c.in_err-put_line.ensures.bytes

pub loop-place-preserved : goal.loop-place-preserved
loop-place-preserved g c = record {
  going = going_on _ _ _ _ _ _ _ c.loop-place.invariant.going
      (span_lines-turn (λ sp v. verdict_line [] sp.name v) c.args.spans.now c.args.found.now c.loop-place.place c.index-spans-place.result
      c.index-found-place.result c.loop-place-test.true c.index-spans-place.is
      (slice_get_read _ _ _ _ (sym c.requires) c.loop-place-test.true c.index-found-place.is)) c.in_ok-put_line.ensures.bytes;
  count = c.in_ok-put_line.ensures.cause.ok ∙ c.loop-place.invariant.count;
}

pub returns-clause-bytes : goal.returns-clause-bytes
returns-clause-bytes g c =
    going_ends _ _ _ (rw (span_lines-end (λ sp v. verdict_line [] sp.name v) c.args.spans.now c.args.found.now c.loop-place.place c.loop-place-test.false) at c.loop-place.invariant.going)
