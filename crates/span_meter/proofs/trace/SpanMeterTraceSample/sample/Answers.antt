use Rattle.std.proofs.Common.{◌≡◌, refl, sym, ap, ◌∙◌, map, subst, arith}
use Rattle.std.proofs.lemmas.List.{with_items_is}
use Rattle.span_meter.specs.Measured.{pins_of}
use Rattle.span_meter.specs.Meters.{HasMeasured, Meters, after_clock}
use Rattle.span_meter.proofs.Telling.{told_measured}
use Rattle.span_meter.proofs.trace.SpanMeterTraceSample.sample.Goals as goal

pub returns-clause-ok : goal.returns-clause-ok
returns-clause-ok c = λ b l h n pins ends e.
    let before : Meters = record { first = c.self.inside.first; last = c.self.inside.last; meters = c.self.inside.meters.items } in
    let same : c.args.self.now ≡ before = sym c.self.view_is in
    let kept = subst (HasMeasured pins ends l) same (h pins ends e) in
    let items = with_items_is c.self.inside.meters c.tell_all.new.meters (omega arith) in
    told_measured pins ends l before _ c.args.sample.now c.args.clock (omega arith) n kept refl refl
    (items ∙ c.tell_all.ensures ∙ ap (map (after_clock c.args.clock c.self.inside.last (pins_of c.args.sample.now))) c.deref_mut.ensures.value)
