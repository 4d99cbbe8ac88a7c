-- The reading of a source as one function: its tokens, or its first fault. `IsTokens` and `IsFirstFault` say the same as relations.
use Rattle.std.specs.Prelude.{ℕ, zero, suc, nat_lt, if◌then◌else◌, List, drop, length, Result, Ok, Err}
use Rattle.pio_lex.specs.declared.fault.LexKind.{LexKind}
use Rattle.pio_lex.specs.declared.piece.Piece.{Piece}
use Rattle.pio_lex.specs.declared.token.Token.{Token}
use Rattle.pio_lex.specs.Fault.{LexRefusal}
use Rattle.pio_lex.specs.Pieces.{piece_at}
use Rattle.pio_lex.specs.Tokens.{Place, start, after, last_kind, line_at}

-- reading goes on after a piece, and ends where none is
abbrev pub read_piece : (Place → Result (List Token) LexRefusal) → List ℕ → Place → Result Piece LexKind → Result (List Token) LexRefusal
read_piece rest source place (Ok piece) = rest (after source place piece)
read_piece rest source place (Err kind) = Err (record { line = line_at source place.at; kind = kind })

-- the reading from a place on, of at most so many pieces
unfoldable pub read_from : ℕ → List ℕ → Place → Result (List Token) LexRefusal
read_from zero source place = Ok place.tokens
read_from (suc more) source place =
    if nat_lt place.at (length source)
    then read_piece (read_from more source) source place (piece_at (last_kind place.tokens) (drop place.at source))
    else Ok place.tokens

-- the reading of a source: a piece has a byte at least, so there are no more pieces than bytes
abbrev pub reading_of : List ℕ → Result (List Token) LexRefusal
reading_of source = read_from (length source) source start
