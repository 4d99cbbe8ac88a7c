use Rattle.std.proofs.Common.{◌≡◌, refl, sym, ap, ◌∙◌, subst, arith}
use Rattle.std.proofs.lemmas.List.{with_items_is}
use Rattle.span_meter.specs.declared.spoken_span.SpokenSpan.{SpokenSpan}
use Rattle.std.proofs.Common.{List}
use Rattle.span_meter.specs.SpokenMeters.{HasSpoken, SpokenMeters, tell_each}
use Rattle.span_meter.proofs.SpokenTrace.{told_spoken}
use Rattle.span_meter.proofs.spoken.SpokenMeterTraceConduct.sample.Goals as goal

pub returns-clause-ok : goal.returns-clause-ok
returns-clause-ok c = λ b l h n pins events e timely.
    let before : SpokenMeters = record { first = c.self.inside.first; last = c.self.inside.last; gone = c.self.inside.gone; spans = c.self.inside.spans.now; known = c.self.inside.known.items } in
    let same : c.args.self.now ≡ before = sym c.self.view_is in
    let items = with_items_is c.self.inside.known c.tell_each.new.known (omega arith) in
    told_spoken pins events l before _ c.args.shown.now c.args.clock (omega arith) n timely
    (λ left. subst (HasSpoken pins events l) same (h pins events e left)) refl refl refl
    (items ∙ c.tell_each.ensures ∙ ap (λ (ms : List SpokenSpan). tell_each c.args.clock c.self.inside.last c.args.shown.now c.self.inside.spans.now ms) c.deref_mut.ensures.value)
    refl
