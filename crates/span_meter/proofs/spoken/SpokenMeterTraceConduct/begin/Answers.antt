use Rattle.std.proofs.Common.{refl, sym, ap, ◌∙◌, map, arith}
use Rattle.std.proofs.lemmas.List.{with_items_is}
use Rattle.span_meter.specs.declared.spoken_span.SpokenSpan.{SpokenSpan}
use Rattle.span_meter.specs.Events.{events_in}
use Rattle.span_meter.specs.SpokenMeters.{SpokenMeters, fresh_spoken}
use Rattle.span_meter.proofs.SpokenNames.{names_tell}
use Rattle.span_meter.proofs.SpokenTrace.{begin_spoken}
use Rattle.span_meter.proofs.spoken.SpokenMeterTraceConduct.begin.Goals as goal

pub returns-clause-ok : goal.returns-clause-ok
returns-clause-ok c = λ b r pins events e timely.
    let now : SpokenMeters = c.args.self.now in
    let told = names_tell now.first pins (map events_in now.spans) events (sym r ∙ e) in
    let items = with_items_is c.self.inside.known c.begin_each.new.known (omega arith) in
    let first = ap (λ (t : SpokenMeters). t.first) c.self.view_is ∙ told.0 in
    begin_spoken pins events c.self.inside.known.items _ (ap (λ (t : SpokenMeters). map events_in t.spans) c.self.view_is ∙ told.1) first first refl c.self.invariant
    (items ∙ c.begin_each.ensures ∙ ap (map (λ (s : SpokenSpan). fresh_spoken s.meter.edges)) c.deref_mut.ensures.value)
