-- The pair that was made is a write.
use Rattle.std.proofs.Common.{◌≡◌, ◌-◌, ap, ◌∙◌}
use Rattle.pin_matrix.specs.Pins.{rotated_right, writes_of}
use Rattle.pin_matrix.proofs.Mapped.{IsWrite-writes_of}
use Rattle.pin_matrix.proofs.writes.writes_of.Goals as goal

pub returns-clause-write : goal.returns-clause-write
returns-clause-write c =
    let mapping = c.args.mapping.now in
    let pins : c.rotate_right.result ≡ (writes_of mapping c.args.value).0 =
    c.rotate_right.ensures ∙ ap (λ w. rotated_right w (32 - mapping.base)) c.low_bits.ensures in
    let bits : c.rotate_right-2.result ≡ (writes_of mapping c.args.value).1 =
    c.rotate_right-2.ensures ∙ ap (λ w. rotated_right w (32 - mapping.base)) c.low_bits-2.ensures in
    rw (pins, bits) (IsWrite-writes_of mapping c.args.value)
