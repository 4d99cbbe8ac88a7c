use Rattle.std.proofs.Common.{◌+◌, ap, ◌∙◌, List, length, get_or, take, arith}
use Rattle.std.specs.Prelude.{slice_set}
use Rattle.span_meter.specs.declared.spoken_span.SpokenSpan.{SpokenSpan}
use Rattle.span_meter.specs.SpokenMeters.{tell_each}
use Rattle.span_meter.proofs.SpokenTrace.{tell_done, tell_length, tell_step}
use Rattle.span_meter.proofs.spoken.tell_each.Goals as goal

pub loop-place-preserved : goal.loop-place-preserved
loop-place-preserved c =
    let i = c.loop-place.place in
    let sps = c.args.spans.now in
    let ms = c.args.known.now in
    let sp = c.index-spans-place.result in
    let m = c.index-known-place.result in
    let before = c.loop-place.invariant.told in
    let told =
    ap (λ (l : List SpokenSpan). slice_set l i c.after_told.result) before
    ∙ ap (slice_set (tell_each c.args.clock c.args.before c.args.told.now (take i sps) ms) i) c.after_told.ensures
    ∙ tell_step c.args.clock c.args.before c.args.told.now sps ms i sp m (omega arith) (omega arith) c.index-spans-place.is
    (c.index-known-place.is ∙ ap (λ (l : List SpokenSpan). get_or l i m) before)
    in
    record {
      told = told;
      many = ap length told ∙ tell_length c.args.clock c.args.before c.args.told.now (take (i + 1) sps) ms;
    }

pub returns : goal.returns
returns c = c.loop-place.invariant.told ∙ tell_done c.args.clock c.args.before c.args.told.now c.args.spans.now c.args.known.now c.loop-place.place (omega arith)
