-- Each piece has at least one byte, and is within the text.
use Rattle.std.proofs.Common.{◌≡◌, ℕ, ◌+◌, ◌<◌, ◌≤◌, ◌⊎◌, inl, inr, Bool, true, false, cond, ◌&&◌, ◌||◌, not, eqb, List, [], ◌∷◌, length, get_or, drop, Option, Some, None, Result, Ok, Err, refl, sym, ap, subst, ◌∙◌, arith}
use Rattle.std.specs.Prelude.{option_map, codes, ok_or}
use Rattle.std.specs.List.{prefix_len}
use Rattle.std.specs.Char.{is_ascii_digit}
use Rattle.std.proofs.lemmas.Bool.{and_parts, or_cases, eqb-true, or_right}
use Rattle.std.proofs.lemmas.List.{length-drop}
use Rattle.std.proofs.lemmas.List.Sums.{prefix_len-le-length}
use Rattle.std.proofs.lemmas.Option.{same_Some}
use Rattle.pio_lex.specs.declared.fault.LexKind.{LexKind}
use Rattle.pio_lex.specs.declared.fault.LexKind.TheVariants.{BadByte, OpenComment, OpenBlock}
use Rattle.pio_lex.specs.declared.token.TokenKind.{TokenKind}
use Rattle.pio_lex.specs.declared.token.TokenKind.TheVariants as kind
use Rattle.pio_lex.specs.declared.piece.Piece.{Piece}
use Rattle.pio_lex.specs.declared.piece.Piece.TheVariants.{Gap, Token}
use Rattle.byte_lines.specs.Bytes.{is_blank}
use Rattle.pio_lex.specs.Bytes.{is_newline, is_letter, is_name_byte, line_length, begins_with}
use Rattle.pio_lex.specs.Numbers.{word_number}
use Rattle.pio_lex.specs.Words.{directive_of}
use Rattle.pio_lex.specs.Gaps.{is_lang_opt, begins_line, through_close, comment_length, opens_block, closes_block, block_length, ended, gap_at}
use Rattle.pio_lex.specs.Spellings.{word_of, begins_name, directive_at, counted, byte_mark, mark_at, token_at}
use Rattle.pio_lex.specs.Pieces.{token_piece, piece_by, piece_at, size, IsPieceLength}

-- which way a test went
pub chosen : {A : Type 0} (b : Bool) (x y z : A) → cond b x y ≡ z → ((b ≡ true) × (x ≡ z)) ⊎ ((b ≡ false) × (y ≡ z))
chosen true x y z e = inl (refl, e)
chosen false x y z e = inr (refl, e)

-- a run whose first byte passes
run_within : (p : ℕ → Bool) (text : List ℕ) → 0 < length text → p (get_or text 0 0) ≡ true → IsPieceLength (prefix_len p text) text
run_within p [] lt e = absurd (omega arith)
run_within p (b ∷ bs) lt e =
    let le = prefix_len-le-length p bs in
    let here : prefix_len p (b ∷ bs) ≡ 1 + prefix_len p bs = ap (λ (t : Bool). cond t (1 + prefix_len p bs) 0) e in
    (omega arith, omega arith)

-- what a mapped length was
mapped : (k : ℕ) (o : Option ℕ) (n : ℕ) → option_map (λ m. m + k) o ≡ Some n → (m : ℕ) × (o ≡ Some m) × (m + k ≡ n)
mapped k None n e = absurd cc
mapped k (Some m) n e = (m, refl, cc)

-- a mark of two bytes needs two
pair_fits : (a b : ℕ) (text : List ℕ) → begins_with (a ∷ b ∷ []) text ≡ true → 2 ≤ length text
pair_fits a b [] e = absurd cc
pair_fits a b (x ∷ []) e = absurd (pair_fits_by (eqb a x) e) where
  pair_fits_by : (t : Bool) → (t && false) ≡ true → ⊥
  pair_fits_by true h = cc
  pair_fits_by false h = cc
pair_fits a b (x ∷ y ∷ rest) e = omega arith

close_within : (text : List ℕ) (n : ℕ) → through_close text ≡ Some n → (2 ≤ n) × (n ≤ length text)
unfolding through_close
close_within [] n e = absurd cc
close_within (b ∷ bs) n e =
    elim (chosen (begins_with (codes "*/") (b ∷ bs)) (Some 2) (option_map (λ m. m + 1) (through_close bs)) (Some n) e) [
      | inl h ↦ let is = same_Some 2 n h.1 in let fits = pair_fits 42 47 (b ∷ bs) h.0 in (omega arith, omega arith)
      | inr h ↦ let m = mapped 1 (through_close bs) n h.1 in let rest = close_within bs m.0 m.1 in let is = m.2 in (omega (arith, rest.0), omega (arith, rest.1))
    ]

comment_within : (text : List ℕ) (n : ℕ) → comment_length text ≡ Some n → IsPieceLength n text
unfolding comment_length
comment_within text n e =
    let m = mapped 2 (through_close (drop 2 text)) n e in
    let rest = close_within (drop 2 text) m.0 m.1 in
    let is = m.2 in
    let left = length-drop 2 text in
    (omega (arith, rest.0), omega (arith, rest.0, rest.1))

block_within : (text : List ℕ) (n : ℕ) → block_length text ≡ Some n → IsPieceLength n text
unfolding block_length
block_within [] n e = absurd cc
block_within (b ∷ bs) n e =
    elim (chosen (is_newline b && closes_block bs) (Some (1 + line_length bs)) (option_map (λ m. m + 1) (block_length bs)) (Some n) e) [
      | inl h ↦ let is = same_Some (1 + line_length bs) n h.1 in let le = prefix_len-le-length (λ c. not (is_newline c)) bs in (omega arith, omega arith)
      | inr h ↦ let m = mapped 1 (block_length bs) n h.1 in let rest = block_within bs m.0 m.1 in let is = m.2 in (omega arith, omega (arith, rest.1))
    ]

-- a gap that has an end
gap_is : (o : Option ℕ) (fault : LexKind) (n : ℕ) → ended fault o ≡ Ok (Some n) → o ≡ Some n
gap_is (Some m) fault n e = cc
gap_is None fault n e = absurd cc

pub ok_is : {A : Type 0} (x y : A) → ◌≡◌ {A = Result A LexKind} (Ok x) (Ok y) → x ≡ y
ok_is x y e = cc

ok_some : (m n : ℕ) → ◌≡◌ {A = Result (Option ℕ) LexKind} (Ok (Some m)) (Ok (Some n)) → m ≡ n
ok_some m n e = cc

-- a line that begins with no newline has some bytes
line_within : (text : List ℕ) → 0 < length text → is_newline (get_or text 0 0) ≡ false → IsPieceLength (line_length text) text
line_within text lt e = run_within (λ b. not (is_newline b)) text lt (ap not e)

pub first_is : (a : ℕ) (mark text : List ℕ) → begins_with (a ∷ mark) text ≡ true → get_or text 0 0 ≡ a
first_is a mark [] e = absurd cc
first_is a mark (x ∷ xs) e = sym (eqb-true a x (and_parts (eqb a x) _ e).0)

no_newline : (b n : ℕ) → b ≡ n → is_newline n ≡ false → is_newline b ≡ false
no_newline b n e h = ap is_newline e ∙ h

gap_within : (last : Option TokenKind) (text : List ℕ) (n : ℕ) → 0 < length text → gap_at last text ≡ Ok (Some n) → IsPieceLength n text
unfolding gap_at
gap_within last text n lt e =
    let b = get_or text 0 0 in
    let P : ℕ → Type 0 = λ m. IsPieceLength m text in
    elim (chosen (is_lang_opt last && not (is_newline b)) _ _ _ e) [
      | inl h ↦ subst P (ok_some (line_length text) n h.1) (run_within (λ b. not (is_newline b)) text lt (and_parts (is_lang_opt last) (not (is_newline b)) h.0).1)
      | inr h0 ↦ elim (chosen (is_blank b) _ _ _ h0.1) [
        | inl h ↦ subst P (ok_some (prefix_len is_blank text) n h.1) (run_within is_blank text lt h.0)
        | inr h1 ↦ elim (chosen (eqb b 59 || begins_with (codes "//") text) _ _ _ h1.1) [
          | inl h ↦ subst P (ok_some (line_length text) n h.1) (line_within text lt
              (elim (or_cases (eqb b 59) (begins_with (codes "//") text) h.0) [
                | inl k ↦ no_newline b 59 (eqb-true b 59 k) refl
                | inr k ↦ no_newline b 47 (first_is 47 (47 ∷ []) text k) refl
              ]))
          | inr h2 ↦ elim (chosen (begins_with (codes "/*") text) _ _ _ h2.1) [
            | inl h ↦ comment_within text n (gap_is (comment_length text) OpenComment n h.1)
            | inr h3 ↦ elim (chosen (begins_line last && opens_block text) _ _ _ h3.1) [
              | inl h ↦ block_within text n (gap_is (block_length text) OpenBlock n h.1)
              | inr h4 ↦ absurd (cc (h4.1))
            ]
          ]
        ]
      ]
    ]

err_is_not : (f : LexKind) (p : Piece) → ◌≡◌ {A = Result Piece LexKind} (Err f) (Ok p) → ⊥
err_is_not f p e = cc

-- ---- tokens

pub ok_pair : (k l : TokenKind) (m n : ℕ) → ◌≡◌ {A = Result (TokenKind × ℕ) LexKind} (Ok (k, m)) (Ok (l, n)) → m ≡ n
ok_pair k l m n e = ap (λ (p : TokenKind × ℕ). p.1) (ok_is {A = TokenKind × ℕ} (k, m) (l, n) e)

pub letter_is_name_byte : (b : ℕ) → is_letter b ≡ true → is_name_byte b ≡ true
letter_is_name_byte b e = ap (λ (t : Bool). t || is_ascii_digit b) e

pub digit_is_name_byte : (b : ℕ) → is_ascii_digit b ≡ true → is_name_byte b ≡ true
digit_is_name_byte b e = or_right (is_letter b) (is_ascii_digit b) e

directive_within : (text : List ℕ) (k : TokenKind) (n : ℕ) → 0 < length text → directive_at text ≡ Ok (k, n) → IsPieceLength n text
unfolding directive_at
directive_within text k n lt e =
    let rest = drop 1 text in
    elim (chosen (not (begins_name rest)) (Err BadByte) (Ok (kind.Directive (directive_of (word_of rest)), 1 + prefix_len is_name_byte rest)) _ e) [
      | inl h ↦ absurd (cc (h.1))
      | inr h ↦ let is = ok_pair _ k (1 + prefix_len is_name_byte rest) n h.1 in
          let le = prefix_len-le-length is_name_byte rest in
          let left = length-drop 1 text in
          (omega arith, omega arith)
    ]

pub counted_is : (m : ℕ) (o : Option ℕ) (k : TokenKind) (n : ℕ) → counted m o ≡ Ok (k, n) → m ≡ n
counted_is m (Some v) k n e = ok_pair (kind.Number v) k m n e
counted_is m None k n e = absurd cc

pub mark_is : (o : Option (TokenKind × ℕ)) (k : TokenKind) (n : ℕ) → ok_or o BadByte ≡ Ok (k, n) → o ≡ Some (k, n)
mark_is (Some m) k n e = cc
mark_is None k n e = absurd cc

pub some_pair : (k l : TokenKind) (m n : ℕ) → ◌≡◌ {A = Option (TokenKind × ℕ)} (Some (k, m)) (Some (l, n)) → m ≡ n
some_pair k l m n e = ap (λ (p : TokenKind × ℕ). p.1) (same_Some {A = TokenKind × ℕ} (k, m) (l, n) e)

pub one_byte : (o : Option TokenKind) (k : TokenKind) (n : ℕ) → ◌≡◌ {A = Option (TokenKind × ℕ)} (option_map {U = TokenKind × ℕ} (λ mark. (mark, 1)) o) (Some (k, n)) → 1 ≡ n
one_byte (Some m) k n e = some_pair m k 1 n e
one_byte None k n e = absurd cc

mark_within : (text : List ℕ) (k : TokenKind) (n : ℕ) → 0 < length text → mark_at text ≡ Some (k, n) → IsPieceLength n text
unfolding mark_at
mark_within text k n lt e =
    elim (chosen (begins_with (codes "::") text) _ _ _ e) [
      | inl h ↦ let is = some_pair kind.DoubleColon k 2 n h.1 in let fits = pair_fits 58 58 text h.0 in (omega arith, omega arith)
      | inr h0 ↦ elim (chosen (begins_with (codes "--") text) _ _ _ h0.1) [
        | inl h ↦ let is = some_pair kind.MinusMinus k 2 n h.1 in let fits = pair_fits 45 45 text h.0 in (omega arith, omega arith)
        | inr h1 ↦ elim (chosen (begins_with (codes "!=") text) _ _ _ h1.1) [
          | inl h ↦ let is = some_pair kind.NotEqual k 2 n h.1 in let fits = pair_fits 33 61 text h.0 in (omega arith, omega arith)
          | inr h2 ↦ let is = one_byte (byte_mark (get_or text 0 0)) k n h2.1 in (omega arith, omega arith)
        ]
      ]
    ]

token_within : (text : List ℕ) (k : TokenKind) (n : ℕ) → 0 < length text → token_at text ≡ Ok (k, n) → IsPieceLength n text
unfolding token_at
token_within text k n lt e =
    let b = get_or text 0 0 in
    let P : ℕ → Type 0 = λ m. IsPieceLength m text in
    elim (chosen (is_newline b) _ _ _ e) [
      | inl h ↦ let is = ok_pair kind.Newline k 1 n h.1 in (omega arith, omega arith)
      | inr h0 ↦ elim (chosen (is_letter b) _ _ _ h0.1) [
        | inl h ↦ subst P (ok_pair _ k (prefix_len is_name_byte text) n h.1) (run_within is_name_byte text lt (letter_is_name_byte b h.0))
        | inr h1 ↦ elim (chosen (eqb b 46) _ _ _ h1.1) [
          | inl h ↦ directive_within text k n lt h.1
          | inr h2 ↦ elim (chosen (is_ascii_digit b) _ _ _ h2.1) [
            | inl h ↦ subst P (counted_is (prefix_len is_name_byte text) (word_number (word_of text)) k n h.1) (run_within is_name_byte text lt (digit_is_name_byte b h.0))
            | inr h3 ↦ mark_within text k n lt (mark_is (mark_at text) k n h3.1)
          ]
        ]
      ]
    ]

pub piece_within : (last : Option TokenKind) (text : List ℕ) (p : Piece) → 0 < length text → piece_at last text ≡ Ok p → IsPieceLength (size p) text
unfolding piece_at
piece_within last text p lt e = piece_within_by (gap_at last text) (token_at text) (λ n h. gap_within last text n lt h) (λ k n h. token_within text k n lt h) refl refl e where
  piece_within_by : (g : Result (Option ℕ) LexKind) (t : Result (TokenKind × ℕ) LexKind) → ((n : ℕ) → g ≡ Ok (Some n) → IsPieceLength n text) → ((k : TokenKind) (n : ℕ) → t ≡ Ok (k, n) → IsPieceLength n text) → gap_at last text ≡ g → token_at text ≡ t → piece_by g text ≡ Ok p → IsPieceLength (size p) text
  piece_within_by (Ok (Some n)) t gaps tokens hg ht q = subst (λ (r : Piece). IsPieceLength (size r) text) (ok_is (Gap n) p q) (gaps n refl)
  piece_within_by (Ok None) (Ok token) gaps tokens hg ht q = subst (λ (r : Piece). IsPieceLength (size r) text) (ok_is (Token token.0 token.1) p (ap token_piece (sym ht) ∙ q)) (tokens token.0 token.1 refl)
  piece_within_by (Ok None) (Err f) gaps tokens hg ht q = absurd (err_is_not f p (ap token_piece (sym ht) ∙ q))
  piece_within_by (Err f) t gaps tokens hg ht q = absurd (err_is_not f p q)
