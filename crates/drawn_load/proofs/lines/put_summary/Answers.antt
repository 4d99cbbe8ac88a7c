use Rattle.std.proofs.Common.{ℕ, List, subst, ◌∙◌}
use Rattle.pio_edge.specs.Edge.{Takes}
use Rattle.drawn_load.proofs.Pieces.{pieces, pieces-same, pieces-text}
use Rattle.drawn_load.proofs.lines.put_summary.Goals as goal

pub returns-clause-bytes : goal.returns-clause-bytes
returns-clause-bytes g c =
    let one = c.as_bytes.ensures.value ∙ c.format.ensures.text in
    let two = c.as_bytes-2.ensures.value ∙ c.format-2.ensures.text in
    let three = c.as_bytes-3.ensures.value ∙ c.format-3.ensures.text in
    let four = c.as_bytes-4.ensures.value ∙ c.format-4.ensures.text in
    let five = c.as_bytes-5.ensures.value ∙ c.format-5.ensures.text in
    let six = c.as_bytes-6.ensures.value ∙ c.format-6.ensures.text in
    let e = pieces-same _ _ _ _ _ _ _ _ _ _ _ _ one two three four five six ∙ pieces-text c.args.summary.now in
    let P : List ℕ → Type 0 = λ text. Takes (g.S.Sink.taken c.args.sink.now) text (g.S.Sink.taken c.put_all.new.sink) c.put_all.result in
    subst P e (unfold pieces in c.put_all.ensures.bytes)
