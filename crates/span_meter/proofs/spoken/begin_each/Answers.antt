use Rattle.std.proofs.Common.{sym, ap, ◌∙◌, arith}
use Rattle.std.specs.Prelude.{slice_set}
use Rattle.std.proofs.lemmas.List.Edits.{map_over_more}
use Rattle.span_meter.specs.declared.spoken_span.SpokenSpan.{SpokenSpan}
use Rattle.span_meter.specs.SpokenMeters.{fresh_spoken}
use Rattle.span_meter.proofs.SpokenTrace.{known_done}
use Rattle.span_meter.proofs.spoken.begin_each.Goals as goal

pub loop-span-preserved : goal.loop-span-preserved
loop-span-preserved c =
    let f : SpokenSpan → SpokenSpan = λ (s : SpokenSpan). fresh_spoken s.meter.edges in
    let items = c.loop-span.span-items in
    let i = c.loop-span.span-index in
    let item = c.span-item.result in
    ap (slice_set items i) (c.new.ensures ∙ ap f (sym c.span-item.is))
    ∙ map_over_more f c.args.known.now items i item (omega arith) c.loop-span.invariant c.span-item.is

pub returns : goal.returns
returns c =
    let f : SpokenSpan → SpokenSpan = λ (s : SpokenSpan). fresh_spoken s.meter.edges in
    known_done f c.args.known.now c.loop-span.span-items c.loop-span.span-index (omega arith) c.loop-span.invariant
