-- The piece that is at a place of a source: a gap, else a token.
use Rattle.std.specs.Prelude.{ℕ, ◌<◌, ◌≤◌, length, List, Option, Some, None, Result, Ok, Err}
use Rattle.pio_lex.specs.declared.fault.LexKind.{LexKind}
use Rattle.pio_lex.specs.declared.token.TokenKind.{TokenKind}
use Rattle.pio_lex.specs.declared.piece.Piece.{Piece}
use Rattle.pio_lex.specs.declared.piece.Piece.TheVariants.{Gap, Token}
use Rattle.pio_lex.specs.Gaps.{gap_at}
use Rattle.pio_lex.specs.Spellings.{token_at}

-- a token of this kind and length
abbrev pub token_piece : Result (TokenKind × ℕ) LexKind → Result Piece LexKind
token_piece (Ok token) = Ok (Token token.0 token.1)
token_piece (Err fault) = Err fault

-- a gap, or the token where there is none
abbrev pub piece_by : Result (Option ℕ) LexKind → List ℕ → Result Piece LexKind
piece_by (Ok (Some n)) text = Ok (Gap n)
piece_by (Ok None) text = token_piece (token_at text)
piece_by (Err fault) text = Err fault

-- the piece that begins a text, after a token of the kind `last`
unfoldable pub piece_at : Option TokenKind → List ℕ → Result Piece LexKind
piece_at last text = piece_by (gap_at last text) text

-- how many bytes a piece has
abbrev pub size : Piece → ℕ
size (Gap n) = n
size (Token kind n) = n

-- a piece of at least one byte, and no longer than the text
abbrev pub IsPieceLength : ℕ → List ℕ → Type 0
IsPieceLength n text = (0 < n) × (n ≤ length text)
