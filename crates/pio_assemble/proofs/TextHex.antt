-- The text of a word as a number: its tokens.
use Rattle.std.proofs.Common.{◌≡◌, ℕ, ◌+◌, ◌*◌, ◌^◌, ◌<◌, ◌==◌, ◌&&◌, Bool, true, false, cond, List, [], ◌∷◌, length, take, Option, Some, None, Ok, refl, ap, ◌∙◌, if◌then◌else◌, arith}
use Rattle.std.specs.Char.{is_digit, digit_value}
use Rattle.std.specs.Fmt.{digit_glyph}
use Rattle.std.specs.List.{prefix_len, list_all}
use Rattle.std.specs.Str.Parse.{digits_value}
use Rattle.std.proofs.lemmas.Bool.{and_from, and_parts, eqb-true, le-leb}
use Rattle.pio_lex.specs.declared.token.TokenKind.TheVariants as kind
use Rattle.pio_lex.specs.declared.piece.Piece.TheVariants as piece
use Rattle.pio_lex.specs.Bytes.{is_name_byte}
use Rattle.pio_lex.specs.Gaps.{gap_at, opens_block}
use Rattle.pio_lex.specs.Numbers.{within, numeral, word_number}
use Rattle.pio_lex.specs.Pieces.{piece_at, token_piece}
use Rattle.pio_lex.specs.Spellings.{counted, directive_at, token_at}
use Rattle.pio_lex.specs.Words.{row_of, directives, directive_of}
use Rattle.pio_encode.specs.Spelling.{word_text}
use Rattle.pio_encode.specs.Word.{bits}
use Rattle.pio_assemble.proofs.TextRows.{AreRow}
use Rattle.pio_assemble.proofs.TextNumbers.{each_below}
use Rattle.pio_assemble.proofs.TextSays.{number_pieces}

-- a hexadecimal digit's byte
abbrev glyph : ℕ → ℕ
glyph d = digit_glyph false d

-- it is of a name and of a hexadecimal number, and is worth the digit
abbrev glyph_test : ℕ → Bool
glyph_test d = is_name_byte (glyph d) && (is_digit (glyph d) 16 && (digit_value (glyph d) == d))

-- the same as facts
record IsGlyph (d : ℕ) : Type 0 where
  named : is_name_byte (glyph d) ≡ true
  is_one : is_digit (glyph d) 16 ≡ true
  worth : digit_value (glyph d) ≡ d

-- for each digit
is_glyph : (d : ℕ) → d < 16 → IsGlyph d
is_glyph d h =
    let one = and_parts (is_name_byte (glyph d)) (is_digit (glyph d) 16 && (digit_value (glyph d) == d)) (each_below glyph_test 16 refl d h) in
    let two = and_parts (is_digit (glyph d) 16) (digit_value (glyph d) == d) one.1 in
    record { named = one.0; is_one = two.0; worth = eqb-true (digit_value (glyph d)) d two.1 }

-- bytes that all pass a test are as many as begin so
all_pass : (p : ℕ → Bool) (bs : List ℕ) → list_all p bs ≡ true → prefix_len p bs ≡ length bs
all_pass p [] h = refl
all_pass p (b ∷ bs) h =
    let both = and_parts (p b) (list_all p bs) h in
    let rest = all_pass p bs both.1 in
    ap (λ (t : Bool). cond t (1 + prefix_len p bs) 0) both.0 ∙ omega (arith, rest)

-- four digits
abbrev four : ℕ → ℕ → ℕ → ℕ → List ℕ
four a b c d = glyph a ∷ glyph b ∷ glyph c ∷ glyph d ∷ []

module _ (a b c d : ℕ) (ha : a < 16) (hb : b < 16) (hc : c < 16) (hd : d < 16) where
  -- each byte is a name's
  all_named : list_all is_name_byte (48 ∷ 120 ∷ four a b c d) ≡ true
  all_named = and_from _ _ (is_glyph a ha).named (and_from _ _ (is_glyph b hb).named (and_from _ _ (is_glyph c hc).named (and_from _ _ (is_glyph d hd).named refl)))

  -- each digit is one
  all_digits : list_all (λ b'. is_digit b' 16) (four a b c d) ≡ true
  all_digits = and_from _ _ (is_glyph a ha).is_one (and_from _ _ (is_glyph b hb).is_one (and_from _ _ (is_glyph c hc).is_one (and_from _ _ (is_glyph d hd).is_one refl)))

  -- their number
  four_value : digits_value 16 (four a b c d) ≡ ((a * 16 + b) * 16 + c) * 16 + d
  four_value = omega (arith, (is_glyph a ha).worth, (is_glyph b hb).worth, (is_glyph c hc).worth, (is_glyph d hd).worth)

  -- as a numeral
  four_numeral : numeral 16 (four a b c d) ≡ Some (((a * 16 + b) * 16 + c) * 16 + d)
  four_numeral =
      let n = ((a * 16 + b) * 16 + c) * 16 + d in
      ap (λ (t : Bool). if t then within (digits_value 16 (four a b c d)) else None) all_digits ∙ ap within four_value ∙ ap (λ (t : Bool). if t then Some n else None) (le-leb n 2147483647 (omega arith))

  -- they are one token
  four_piece : piece_at None (48 ∷ 120 ∷ four a b c d) ≡ Ok (piece.Token (kind.Number (((a * 16 + b) * 16 + c) * 16 + d)) 6)
  unfolding piece_at gap_at opens_block token_at word_number
  four_piece =
      let text : List ℕ = 48 ∷ 120 ∷ four a b c d in
      let whole : piece_at None text ≡ token_piece (counted (prefix_len is_name_byte text) (word_number (take (prefix_len is_name_byte text) text))) = refl in
      let all : prefix_len is_name_byte text ≡ 6 = all_pass is_name_byte text all_named in
      let number : word_number text ≡ numeral 16 (four a b c d) = refl in
      whole ∙ ap (λ (n : ℕ). token_piece (counted n (word_number (take n text)))) all ∙ ap (λ (o : Option ℕ). token_piece (counted 6 o)) (number ∙ four_numeral)

-- the number of a word's digits
digits_of_word : (w : ℕ) → w < 2 ^ 16 → ((bits w 12 4 * 16 + bits w 8 4) * 16 + bits w 4 4) * 16 + bits w 0 4 ≡ w
digits_of_word w h = omega arith

-- the pieces of a word as a number
pub number_row : (w : ℕ) → w < 2 ^ 16 → AreRow (word_text w) (number_pieces w)
unfolding piece_at gap_at opens_block token_at directive_at directive_of directives row_of word_text
number_row w h =
    let last = four_piece (bits w 12 4) (bits w 8 4) (bits w 4 4) (bits w 0 4) (omega arith) (omega arith) (omega arith) (omega arith) in
    (refl, refl, (refl, refl, (refl, last ∙ ap (λ (n : ℕ). Ok (piece.Token (kind.Number n) 6)) (digits_of_word w h), refl)))
