use Rattle.std.proofs.Common.{ℕ, List, subst, ◌∙◌}
use Rattle.pio_edge.specs.Edge.{Takes}
use Rattle.span_meter.proofs.Pieces.{pieces, pieces-same, pieces-front}
use Rattle.span_meter.proofs.line.put_pairs.Goals as goal

pub returns-clause-bytes : goal.returns-clause-bytes
returns-clause-bytes g c =
    let pairs = c.as_bytes.ensures.value ∙ c.format.ensures.text in
    let least = c.as_bytes-2.ensures.value ∙ c.format-2.ensures.text in
    let most = c.as_bytes-3.ensures.value ∙ c.format-3.ensures.text in
    let e = pieces-same c.args.name.now _ _ _ _ _ _ pairs least most ∙ pieces-front c.args.name.now c.args.seen in
    let P : List ℕ → Type 0 = λ text. Takes (g.S.Sink.taken c.args.sink.now) text (g.S.Sink.taken c.put_all.new.sink) c.put_all.result in
    subst P e (unfold pieces in c.put_all.ensures.bytes)
