-- How tokens are spelled (Pico SDK manual, section 3.3), and which spelling begins a text, as long as it can be.
use Rattle.std.specs.Prelude.{◌≡◌, ℕ, ◌+◌, ◌<◌, ◌≤◌, ◌==◌, IsTrue, not, Bool, false, List, [], ◌∷◌, length, take, drop, Option, Some, None, option_map, Result, Ok, Err, ok_or, slice_index, codes, if◌then◌else◌}
use Rattle.std.specs.List.{prefix_len, list_all}
use Rattle.std.specs.Char.{is_ascii_digit}
use Rattle.pio_lex.specs.declared.fault.LexKind.{LexKind}
use Rattle.pio_lex.specs.declared.fault.LexKind.TheVariants.{BadByte, BadNumber}
use Rattle.pio_lex.specs.declared.keyword.Keyword.{Keyword}
use Rattle.pio_lex.specs.declared.token.TokenKind.{TokenKind}
use Rattle.pio_lex.specs.declared.token.TokenKind.TheVariants as kind
use Rattle.pio_lex.specs.Bytes.{newline, full_stop, comma, colon, open_bracket, close_bracket, open_paren, close_paren, plus, hyphen, star, slash, bang, tilde, is_newline, is_letter, is_name_byte, begins_with}
use Rattle.pio_lex.specs.Words.{keyword_of, directive_of}
use Rattle.pio_lex.specs.Numbers.{greatest, word_number}

-- a text whose first byte is a letter or `_`
abbrev pub begins_name : List ℕ → Bool
begins_name [] = false
begins_name (b ∷ bs) = is_letter b

-- a letter or `_`, then letters, digits and `_`
abbrev pub IsWord : List ℕ → Type 0
IsWord text = IsTrue (begins_name text) × IsTrue (list_all is_name_byte text)

-- a text spells a token of this kind
abbrev pub IsSpelling : TokenKind → List ℕ → Type 0
IsSpelling kind.Newline text = text ≡ newline ∷ []
IsSpelling kind.Name text = IsWord text × (keyword_of text ≡ None)
IsSpelling (kind.Keyword keyword) text = IsWord text × (keyword_of text ≡ Some keyword)
IsSpelling (kind.Directive directive) text = (text ≡ full_stop ∷ drop 1 text) × IsWord (drop 1 text) × (directive_of (drop 1 text) ≡ directive)
IsSpelling (kind.Number value) text = IsTrue (list_all is_name_byte text) × (word_number text ≡ Some value) × (value ≤ greatest)
IsSpelling kind.Comma text = text ≡ codes ","
IsSpelling kind.Colon text = text ≡ codes ":"
IsSpelling kind.DoubleColon text = text ≡ codes "::"
IsSpelling kind.OpenBracket text = text ≡ codes "["
IsSpelling kind.CloseBracket text = text ≡ codes "]"
IsSpelling kind.OpenParen text = text ≡ codes "("
IsSpelling kind.CloseParen text = text ≡ codes ")"
IsSpelling kind.Plus text = text ≡ codes "+"
IsSpelling kind.Minus text = text ≡ codes "-"
IsSpelling kind.MinusMinus text = text ≡ codes "--"
IsSpelling kind.Star text = text ≡ codes "*"
IsSpelling kind.Slash text = text ≡ codes "/"
IsSpelling kind.Bang text = text ≡ codes "!"
IsSpelling kind.NotEqual text = text ≡ codes "!="
IsSpelling kind.Tilde text = text ≡ codes "~"

-- no text of more than n bytes, from the beginning of this one, spells a token
abbrev pub IsLongest : List ℕ → ℕ → Type 0
IsLongest text n = (k : TokenKind) (m : ℕ) → n < m → m ≤ length text → IsSpelling k (take m text) → ⊥

-- ---- the longest one that begins a text

-- the letters, digits and `_` that a text begins with
abbrev pub word_of : List ℕ → List ℕ
word_of text = take (prefix_len is_name_byte text) text

-- a name is a keyword or a symbol
abbrev pub name_kind : Option Keyword → TokenKind
name_kind (Some keyword) = kind.Keyword keyword
name_kind None = kind.Name

-- the letters, digits and `_` that a text begins with, as a name
abbrev pub name_at : List ℕ → TokenKind × ℕ
name_at text = (name_kind (keyword_of (word_of text)), prefix_len is_name_byte text)

-- `.` and a name
unfoldable pub directive_at : List ℕ → Result (TokenKind × ℕ) LexKind
directive_at text =
    if not (begins_name (drop 1 text)) then Err BadByte else
    Ok (kind.Directive (directive_of (word_of (drop 1 text))), 1 + prefix_len is_name_byte (drop 1 text))

-- a number of this length
abbrev pub counted : ℕ → Option ℕ → Result (TokenKind × ℕ) LexKind
counted length (Some value) = Ok (kind.Number value, length)
counted length None = Err BadNumber

-- a digit, with all letters, digits and `_` after it
abbrev pub number_at : List ℕ → Result (TokenKind × ℕ) LexKind
number_at text = counted (prefix_len is_name_byte text) (word_number (word_of text))

-- the marks of one byte
abbrev pub byte_mark : ℕ → Option TokenKind
byte_mark b =
    if b == comma then Some kind.Comma else
    if b == colon then Some kind.Colon else
    if b == open_bracket then Some kind.OpenBracket else
    if b == close_bracket then Some kind.CloseBracket else
    if b == open_paren then Some kind.OpenParen else
    if b == close_paren then Some kind.CloseParen else
    if b == plus then Some kind.Plus else
    if b == hyphen then Some kind.Minus else
    if b == star then Some kind.Star else
    if b == slash then Some kind.Slash else
    if b == bang then Some kind.Bang else
    if b == tilde then Some kind.Tilde else None

-- the longest mark
unfoldable pub mark_at : List ℕ → Option (TokenKind × ℕ)
mark_at text =
    if begins_with (codes "::") text then Some (kind.DoubleColon, 2) else
    if begins_with (codes "--") text then Some (kind.MinusMinus, 2) else
    if begins_with (codes "!=") text then Some (kind.NotEqual, 2) else
    option_map (λ mark. (mark, 1)) (byte_mark (slice_index text 0))

-- the token that begins a text where no gap does, with its length
unfoldable pub token_at : List ℕ → Result (TokenKind × ℕ) LexKind
token_at text =
    if is_newline (slice_index text 0) then Ok (kind.Newline, 1) else
    if is_letter (slice_index text 0) then Ok (name_at text) else
    if slice_index text 0 == full_stop then directive_at text else
    if is_ascii_digit (slice_index text 0) then number_at text else
    ok_or (mark_at text) BadByte
