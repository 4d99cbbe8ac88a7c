use Rattle.std.proofs.Common.{ℕ, List, subst, ap, ◌∙◌}
use Rattle.pio_edge.specs.Edge.{Takes}
use Rattle.serial_receiver.proofs.Pieces.{bad_pieces, bad_pieces-line}
use Rattle.serial_receiver.proofs.frame.put_bad.Goals as goal

pub returns-clause-bytes : goal.returns-clause-bytes
returns-clause-bytes g c =
    let e = ap bad_pieces (c.as_bytes.ensures.value ∙ c.format.ensures.text) ∙ bad_pieces-line c.args.frame in
    let P : List ℕ → Type 0 = λ text. Takes (g.S.Sink.taken c.args.sink.now) text (g.S.Sink.taken c.put_all.new.sink) c.put_all.result in
    subst P e (unfold bad_pieces in c.put_all.ensures.bytes)
