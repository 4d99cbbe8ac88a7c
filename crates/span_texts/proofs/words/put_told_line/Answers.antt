use Rattle.std.proofs.Common.{◌≡◌, ℕ, List, subst, ◌∙◌}
use Rattle.pio_edge.specs.Edge.{Takes}
use Rattle.span_texts.specs.Words.{told_line}
use Rattle.span_texts.proofs.Pieces.{pieces, pieces-line}
use Rattle.span_texts.proofs.words.put_told_line.Goals as goal

pub returns-clause-bytes : goal.returns-clause-bytes
returns-clause-bytes g c =
    let a = c.args in
    let line = told_line a.front.now a.name.now a.told.now a.address a.x.now a.y.now a.levels.now a.ending.now in
    let address = c.as_bytes-3.ensures.value ∙ c.format.ensures.text in
    let e : pieces c.as_bytes.result.now a.name.now c.as_bytes-2.result.now c.as_bytes-3.result.now c.as_bytes-4.result.now c.as_bytes-5.result.now c.as_bytes-6.result.now c.as_bytes-7.result.now ≡ line =
    cc (c.as_bytes.ensures.value, c.as_bytes-2.ensures.value, address, c.as_bytes-4.ensures.value, c.as_bytes-5.ensures.value, c.as_bytes-6.ensures.value, c.as_bytes-7.ensures.value)
    ∙ pieces-line a.front.now a.name.now a.told.now a.address a.x.now a.y.now a.levels.now a.ending.now in
    subst (λ (text : List ℕ). Takes (g.S.Sink.taken a.sink.now) text (g.S.Sink.taken c.put_all.new.sink) c.put_all.result) e (unfold pieces in c.put_all.ensures.bytes)
