use Rattle.std.proofs.Common.{sym, ap, ◌∙◌, arith}
use Rattle.std.specs.Prelude.{slice_set}
use Rattle.std.proofs.lemmas.List.Edits.{map_over_more}
use Rattle.span_meter.specs.declared.meter.Meter.{Meter}
use Rattle.span_meter.specs.Meters.{after_clock}
use Rattle.span_meter.proofs.Telling.{map_done}
use Rattle.span_meter.proofs.trace.tell_all.Goals as goal

pub loop-meter-preserved : goal.loop-meter-preserved
loop-meter-preserved c =
    let f : Meter → Meter = after_clock c.args.clock c.args.before c.args.pins in
    let items = c.loop-meter.meter-items in
    let i = c.loop-meter.meter-index in
    let item = c.meter-item.result in
    ap (slice_set items i) (c.after.ensures ∙ ap f (sym c.meter-item.is))
    ∙ map_over_more f c.args.meters.now items i item (omega arith) c.loop-meter.invariant c.meter-item.is

pub returns : goal.returns
returns c =
    let f : Meter → Meter = after_clock c.args.clock c.args.before c.args.pins in
    map_done f c.args.meters.now c.loop-meter.meter-items c.loop-meter.meter-index (omega arith) c.loop-meter.invariant
