-- What the tokens of a source are, and what its first fault is: the source is a row of pieces.
use Rattle.std.specs.Prelude.{◌≡◌, ℕ, ◌+◌, ◌-◌, ◌<◌, ◌≤◌, List, [], ◌∷◌, ◌++◌, length, take, drop, Option, option_map, slice_get, Ok, Err}
use Rattle.std.specs.List.{count_by}
use Rattle.pio_lex.specs.declared.fault.LexKind.{LexKind}
use Rattle.pio_lex.specs.declared.token.TokenKind.{TokenKind}
use Rattle.pio_lex.specs.declared.token.Token.{Token}
use Rattle.pio_lex.specs.declared.piece.Piece.{Piece}
use Rattle.pio_lex.specs.declared.piece.Piece.TheVariants as piece
use Rattle.pio_lex.specs.Bytes.{is_newline}
use Rattle.pio_lex.specs.Spellings.{IsSpelling, IsLongest}
use Rattle.pio_lex.specs.Pieces.{piece_at, size}

-- the line of the byte at a place, counted from 1
abbrev pub line_at : List ℕ → ℕ → ℕ
line_at source at = count_by is_newline (take at source) + 1

-- a place of a source, with the tokens before it
pub record Place : Type 0 where
  pub at : ℕ
  pub tokens : List Token

-- the beginning of a source
abbrev pub start : Place
start = record { at = 0; tokens = [] }

-- the kind of the last token
abbrev pub last_kind : List Token → Option TokenKind
last_kind tokens = option_map (λ token. token.kind) (slice_get tokens (length tokens - 1))

-- this piece is at a place
pub record IsAt (source : List ℕ) (place : Place) (piece : Piece) : Type 0 where
  pub before_end : place.at < length source
  pub is_there : piece_at (last_kind place.tokens) (drop place.at source) ≡ Ok piece

-- the tokens of a piece at a line and a place: one, or none
abbrev pub tokens_of : ℕ → ℕ → Piece → List Token
tokens_of line at (piece.Gap n) = []
tokens_of line at (piece.Token kind n) = record { kind = kind; line = line; first = at; length = n } ∷ []

-- the place after a piece
abbrev pub after : List ℕ → Place → Piece → Place
after source place piece = record { at = place.at + size piece; tokens = place.tokens ++ tokens_of (line_at source place.at) place.at piece }

-- these pieces are one after the other, from one place to another
abbrev pub AreBetween : List ℕ → Place → List Piece → Place → Type 0
AreBetween source from [] to = from ≡ to
AreBetween source from (piece ∷ pieces) to = IsAt source from piece × AreBetween source (after source from piece) pieces to

-- the pieces of the whole source have these tokens
pub record IsTokens (source : List ℕ) (tokens : List Token) : Type 0 where
  pub pieces : List Piece
  pub whole : AreBetween source start pieces (record { at = length source; tokens = tokens })

-- after some pieces nothing is, for this cause
pub record IsFirstFault (source : List ℕ) (line : ℕ) (kind : LexKind) : Type 0 where
  pub pieces : List Piece
  pub place : Place
  pub before : AreBetween source start pieces place
  pub before_end : place.at < length source
  pub fault : piece_at (last_kind place.tokens) (drop place.at source) ≡ Err kind
  pub at_line : line ≡ line_at source place.at

-- the tokens are in order, each of at least one byte, within these bounds
abbrev pub AreInOrder : ℕ → List Token → ℕ → Type 0
AreInOrder from [] to = from ≤ to
AreInOrder from (token ∷ tokens) to = (from ≤ token.first) × (0 < token.length) × AreInOrder (token.first + token.length) tokens to

-- some tokens are those of the source
abbrev pub HasTokens : List ℕ → Type 0
HasTokens source = (tokens : List Token) × IsTokens source tokens

-- some fault is the first one of the source
abbrev pub HasFault : List ℕ → Type 0
HasFault source = (line : ℕ) × (kind : LexKind) × IsFirstFault source line kind

-- a token is within the source, on its line, and is what its text spells; no longer text from there spells one
pub record IsTokenOf (source : List ℕ) (token : Token) : Type 0 where
  pub some : 0 < token.length
  pub within : token.first + token.length ≤ length source
  pub on_line : token.line ≡ line_at source token.first
  pub spelled : IsSpelling token.kind (take token.length (drop token.first source))
  pub longest : IsLongest (drop token.first source) token.length
