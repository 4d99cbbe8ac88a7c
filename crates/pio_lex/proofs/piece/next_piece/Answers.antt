use Rattle.std.proofs.Common.{◌≡◌, Ok, rules}
use Rattle.pio_lex.specs.declared.piece.Piece.TheVariants.{Gap, Token}
use Rattle.pio_lex.specs.Pieces.{piece_at}
use Rattle.pio_lex.proofs.Sizes.{piece_within}
use Rattle.pio_lex.proofs.piece.next_piece.Goals as goal

pub returns-in-Some-clause-within : goal.returns-in-Some-clause-within
unfolding piece_at
returns-in-Some-clause-within c =
    let value : piece_at c.args.last c.args.text.now ≡ Ok (Gap c.in-Some.size) = search rules in
    piece_within c.args.last c.args.text.now (Gap c.in-Some.size) c.requires value

pub returns-clause-within : goal.returns-clause-within
unfolding piece_at
returns-clause-within c =
    let value : piece_at c.args.last c.args.text.now ≡ Ok (Token c.in_ok-kind.kind c.in_ok-kind.length) = search rules in
    piece_within c.args.last c.args.text.now (Token c.in_ok-kind.kind c.in_ok-kind.length) c.requires value
