-- The turn of std, by up to all bits.
use Rattle.std.proofs.Common.{◌∙◌, ap}
use Rattle.std.specs.Int.{rotate_right, w32}
use Rattle.pin_matrix.proofs.Bounds.{turned}
use Rattle.pin_matrix.proofs.rotation.rotate_right.Goals as goal

pub returns : goal.returns
returns c =
    c.rotate_right.ensures ∙ ap (rotate_right w32 c.args.word) c.from.ensures
    ∙ turned c.args.word c.args.by c.ranges.word.fits c.requires
