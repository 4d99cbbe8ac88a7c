-- The tokens of a text, piece by piece.
--   AreRow         these pieces are one after the other, from the beginning of a text to its end
--   tokens_from    the tokens of pieces
--   reads_row      a text's reading is the tokens of its pieces
use Rattle.std.proofs.Common.{◌≡◌, ℕ, zero, suc, ◌+◌, ◌-◌, ◌<◌, ◌≤◌, ◌&&◌, not, Bool, true, false, List, [], ◌∷◌, ◌++◌, length, drop, Option, Some, None, Ok, refl, ap, subst, ◌∙◌, nat_lt, get_or, slice_get, arith, append_assoc}
use Rattle.std.specs.Prelude.{option_map}
use Rattle.std.proofs.lemmas.Bool.{and_parts, ltb-true, lt-ltb, le-ltb}
use Rattle.std.proofs.lemmas.List.{append-nil, length-append, length-drop, drop-drop}
use Rattle.std.proofs.Math.Seq.{get_or-append_seam}
use Rattle.std.proofs.lemmas.Option.{slice_get-get_or}
use Rattle.pio_lex.specs.declared.token.TokenKind.{TokenKind}
use Rattle.pio_lex.specs.declared.token.Token.{Token}
use Rattle.pio_lex.specs.declared.piece.Piece.{Piece}
use Rattle.pio_lex.specs.declared.piece.Piece.TheVariants as piece
use Rattle.pio_lex.specs.Gaps.{is_lang_opt, begins_line, opens_block, gap_at}
use Rattle.pio_lex.specs.Pieces.{piece_at, size}
use Rattle.pio_lex.specs.Reading.{read_from, reading_of}
use Rattle.pio_lex.specs.Tokens.{Place, line_at, tokens_of, last_kind, after as after_piece, start}

-- a text that is left
abbrev pub is_some_text : List ℕ → Bool
is_some_text [] = false
is_some_text (b ∷ bs) = true

-- a piece that is no `.lang_opt`
abbrev pub is_no_option : Piece → Bool
is_no_option (piece.Gap n) = true
is_no_option (piece.Token kind n) = not (is_lang_opt (Some kind))

-- a piece of some bytes at the beginning of a text where no foreign block begins
abbrev pub may_be_first : List ℕ → Piece → Bool
may_be_first text p = is_some_text text && (nat_lt 0 (size p) && (not (opens_block text) && is_no_option p))

-- these pieces are one after the other, from the beginning of a text to its end
abbrev pub AreRow : List ℕ → List Piece → Type 0
AreRow text [] = text ≡ []
AreRow text (p ∷ pieces) = (may_be_first text p ≡ true) × (piece_at None text ≡ Ok p) × AreRow (drop (size p) text) pieces

-- the tokens of pieces that are at a place of a source
abbrev pub tokens_from : List ℕ → ℕ → List Piece → List Token
tokens_from source at [] = []
tokens_from source at (p ∷ pieces) = tokens_of (line_at source at) at p ++ tokens_from source (at + size p) pieces

last_kind_more : (tokens : List Token) (t : Token) → last_kind (tokens ++ t ∷ []) ≡ Some t.kind
last_kind_more tokens t =
    let count : length (tokens ++ t ∷ []) ≡ length tokens + 1 = length-append tokens (t ∷ []) in
    let last : length (tokens ++ t ∷ []) - 1 ≡ length tokens = omega arith in
    let it : slice_get (tokens ++ t ∷ []) (length tokens) ≡ Some (get_or (tokens ++ t ∷ []) (length tokens) t) = slice_get-get_or (tokens ++ t ∷ []) (length tokens) t (omega arith) in
    let that : get_or (tokens ++ t ∷ []) (length tokens) t ≡ t = get_or-append_seam tokens t [] t in
    ap (λ (at : ℕ). option_map (λ (token : Token). token.kind) (slice_get (tokens ++ t ∷ []) at)) last ∙ ap (λ (o : Option Token). option_map (λ (token : Token). token.kind) o) (it ∙ ap (λ (x : Token). Some x) that)

-- where no foreign block begins, and after no `.lang_opt`, a piece does not depend on the token before it
any_last : (last : Option TokenKind) (text : List ℕ) → is_lang_opt last ≡ false → opens_block text ≡ false → piece_at last text ≡ piece_at None text
unfolding piece_at gap_at
any_last last text no_option none = by (begins_line last) refl where
  by : (b : Bool) → begins_line last ≡ b → piece_at last text ≡ piece_at None text
  by true e = rw (no_option, none, e) refl
  by false e = rw (no_option, none, e) refl

-- the same as facts
record MayBeFirst (text : List ℕ) (p : Piece) : Type 0 where
  some : is_some_text text ≡ true
  counts : 0 < size p
  other : opens_block text ≡ false
  no_option : is_no_option p ≡ true

parts_of : (text : List ℕ) (p : Piece) → may_be_first text p ≡ true → MayBeFirst text p
parts_of text p h =
    let one = and_parts (is_some_text text) _ h in
    let two = and_parts (nat_lt 0 (size p)) _ one.1 in
    let three = and_parts (not (opens_block text)) (is_no_option p) two.1 in
    record { some = one.0; counts = ltb-true 0 (size p) two.0; other = not_true (opens_block text) three.0; no_option = three.1 }
  where
    not_true : (b : Bool) → not b ≡ true → b ≡ false
    not_true true e = absurd cc
    not_true false e = refl

some_length : (text : List ℕ) → is_some_text text ≡ true → 0 < length text
some_length [] e = absurd cc
some_length (b ∷ bs) e = omega arith

-- after a piece that is no `.lang_opt`, there is no `.lang_opt`
stays_no_option : (source : List ℕ) (place : Place) (p : Piece) → is_lang_opt (last_kind place.tokens) ≡ false → is_no_option p ≡ true → is_lang_opt (last_kind (after_piece source place p).tokens) ≡ false
stays_no_option source place (piece.Gap n) h no_option = rw (append-nil place.tokens) h
stays_no_option source place (piece.Token kind n) h no_option =
    let last : last_kind (after_piece source place (piece.Token kind n)).tokens ≡ Some kind = last_kind_more place.tokens _ in
    ap is_lang_opt last ∙ not_true (is_lang_opt (Some kind)) no_option
  where
    not_true : (b : Bool) → not b ≡ true → b ≡ false
    not_true true e = absurd cc
    not_true false e = refl

-- the reading from a place on
reads_from : (source : List ℕ) (pieces : List Piece) (more : ℕ) (place : Place) → is_lang_opt (last_kind place.tokens) ≡ false → length (drop place.at source) ≤ more → AreRow (drop place.at source) pieces
    → read_from more source place ≡ Ok (place.tokens ++ tokens_from source place.at pieces)
unfolding read_from
reads_from source [] zero place no_option fuel row = rw (append-nil place.tokens) refl
reads_from source [] (suc more) place no_option fuel row =
    let none : length (drop place.at source) ≡ 0 = ap length row in
    let past : length source ≤ place.at = omega (arith, length-drop place.at source) in
    let test : nat_lt place.at (length source) ≡ false = le-ltb place.at (length source) past in
    rw (test, append-nil place.tokens) refl
reads_from source (p ∷ pieces) zero place no_option fuel row =
    let m = parts_of (drop place.at source) p row.0 in
    absurd (omega (arith, some_length (drop place.at source) m.some))
reads_from source (p ∷ pieces) (suc more) place no_option fuel row =
    let m = parts_of (drop place.at source) p row.0 in
    let left : 0 < length (drop place.at source) = some_length (drop place.at source) m.some in
    let within : place.at < length source = omega (arith, length-drop place.at source) in
    let test : nat_lt place.at (length source) ≡ true = lt-ltb place.at (length source) within in
    let here : piece_at (last_kind place.tokens) (drop place.at source) ≡ Ok p = any_last (last_kind place.tokens) (drop place.at source) no_option m.other ∙ row.1 in
    let counts : 0 < size p = m.counts in
    let on : drop (size p) (drop place.at source) ≡ drop (place.at + size p) source = drop-drop (size p) place.at source in
    let shorter : length (drop (place.at + size p) source) ≤ more = omega (arith, length-drop place.at source, length-drop (place.at + size p) source) in
    let rest = reads_from source pieces more (after_piece source place p) (stays_no_option source place p no_option m.no_option) shorter (subst (λ (text : List ℕ). AreRow text pieces) on row.2) in
    rw (test, here) (rest ∙ ap (λ (ts : List Token). Ok ts) (append_assoc place.tokens (tokens_of (line_at source place.at) place.at p) (tokens_from source (place.at + size p) pieces)))

-- a text's reading is the tokens of its pieces
pub reads_row : (text : List ℕ) (pieces : List Piece) → AreRow text pieces → reading_of text ≡ Ok (tokens_from text 0 pieces)
reads_row text pieces row = reads_from text pieces (length text) start refl (omega arith) row
