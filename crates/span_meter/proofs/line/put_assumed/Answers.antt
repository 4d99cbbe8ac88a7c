use Rattle.std.proofs.Common.{ℕ, List, subst, ◌∙◌}
use Rattle.pio_edge.specs.Edge.{Takes}
use Rattle.span_meter.proofs.Pieces.{end_pieces, pieces-end}
use Rattle.span_meter.proofs.line.put_assumed.Goals as goal

pub returns-clause-bytes : goal.returns-clause-bytes
returns-clause-bytes g c =
    let e = pieces-end _ c.args.clock (c.as_bytes.ensures.value ∙ c.format.ensures.text) in
    let P : List ℕ → Type 0 = λ text. Takes (g.S.Sink.taken c.args.sink.now) text (g.S.Sink.taken c.put_all.new.sink) c.put_all.result in
    subst P e (unfold end_pieces in c.put_all.ensures.bytes)
