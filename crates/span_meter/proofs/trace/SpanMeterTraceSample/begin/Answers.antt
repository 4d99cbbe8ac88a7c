use Rattle.std.proofs.Common.{sym, ap, ◌∙◌, map, arith}
use Rattle.std.proofs.lemmas.List.{with_items_is}
use Rattle.span_meter.specs.declared.meter.Meter.{Meter}
use Rattle.span_meter.specs.Meters.{Meters, fresh, watched}
use Rattle.span_meter.proofs.Telling.{begin_measured, tells}
use Rattle.span_meter.proofs.trace.SpanMeterTraceSample.begin.Goals as goal

pub returns-clause-ok : goal.returns-clause-ok
returns-clause-ok c = λ b r pins ends e.
    let now : Meters = c.args.self.now in
    let told = tells now.first pins (watched now.meters) ends (sym r ∙ e) in
    let f : Meter → Meter = λ m. fresh m.edges in
    let items = with_items_is c.self.inside.meters c.begin_all.new.meters (omega arith) in
    let first = ap (λ (t : Meters). t.first) c.self.view_is ∙ told.0 in
    begin_measured pins ends now.meters _ told.1 first first
    (items ∙ c.begin_all.ensures ∙ ap (map f) (c.deref_mut.ensures.value ∙ ap (λ (t : Meters). t.meters) c.self.view_is))
