use Rattle.std.proofs.Common.{◌≡◌, ℕ, List, [], ◌∷◌, subst, ◌∙◌}
use Rattle.pio_edge.specs.Edge.{Takes}
use Rattle.serial_receiver.specs.FrameText.{hexadecimal}
use Rattle.serial_receiver.proofs.Pieces.{byte_pieces, byte_pieces-same, byte_pieces-line}
use Rattle.serial_receiver.proofs.frame.put_byte.Goals as goal

pub returns-clause-bytes : goal.returns-clause-bytes
returns-clause-bytes g c =
    let one = c.digit.ensures in
    let two = c.digit-2.ensures in
    let digits : c.digit.result ∷ c.digit-2.result ∷ [] ≡ hexadecimal c.args.frame.byte = cc in
    let e = byte_pieces-same _ _ _ _ digits (c.as_bytes.ensures.value ∙ c.format.ensures.text) ∙ byte_pieces-line c.args.frame in
    let P : List ℕ → Type 0 = λ text. Takes (g.S.Sink.taken c.args.sink.now) text (g.S.Sink.taken c.put_all.new.sink) c.put_all.result in
    subst P e (unfold byte_pieces in c.put_all.ensures.bytes)
