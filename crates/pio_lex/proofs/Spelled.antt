-- Each token's text spells it.
use Rattle.std.proofs.Common.{◌≡◌, ℕ, ◌+◌, ◌<◌, ◌≤◌, inl, inr, Bool, true, false, cond, ◌||◌, not, eqb, leb, List, [], ◌∷◌, length, get_or, take, drop, Option, Some, None, Result, Ok, Err, refl, sym, ap, subst, ◌∙◌, arith}
use Rattle.std.specs.Prelude.{option_map, codes, ok_or}
use Rattle.std.specs.List.{prefix_len, take_while, list_all, All}
use Rattle.std.specs.Char.{is_ascii_digit}
use Rattle.std.specs.Str.{bytes_eq}
use Rattle.std.specs.Str.Parse.{digits_value}
use Rattle.std.proofs.Math.Seq.{take-add}
use Rattle.std.proofs.lemmas.Bool.{and_parts, and_from, eqb-true, leb-true, not-false}
use Rattle.std.proofs.lemmas.List.{length-drop}
use Rattle.std.proofs.lemmas.List.Elements.{All-nil, All-append, All-cons}
use Rattle.std.proofs.lemmas.List.Sums.{take_while-cons}
use Rattle.pio_lex.specs.declared.fault.LexKind.{LexKind}
use Rattle.pio_lex.specs.declared.fault.LexKind.TheVariants.{BadByte}
use Rattle.pio_lex.specs.declared.keyword.Keyword.{Keyword}
use Rattle.pio_lex.specs.declared.token.Token.{Token}
use Rattle.pio_lex.specs.declared.token.TokenKind.{TokenKind}
use Rattle.pio_lex.specs.declared.token.TokenKind.TheVariants as kind
use Rattle.pio_lex.specs.declared.piece.Piece.{Piece}
use Rattle.pio_lex.specs.declared.piece.Piece.TheVariants as piece
use Rattle.pio_lex.specs.Bytes.{is_newline, is_letter, is_name_byte, begins_with}
use Rattle.pio_lex.specs.Words.{keyword_of, directive_of}
use Rattle.pio_lex.specs.Numbers.{within, numeral, word_number}
use Rattle.pio_lex.specs.Gaps.{gap_at}
use Rattle.pio_lex.specs.Spellings.{begins_name, IsWord, IsSpelling, word_of, name_kind, name_at, directive_at, counted, number_at, byte_mark, mark_at, token_at}
use Rattle.pio_lex.specs.Pieces.{token_piece, piece_by, piece_at}
use Rattle.pio_lex.specs.Tokens.{line_at, Place, start, last_kind, IsAt, tokens_of, after, AreBetween, IsTokens, IsTokenOf}
use Rattle.pio_lex.proofs.Longest.{token_longest}
use Rattle.pio_lex.proofs.Sizes.{chosen, ok_is, letter_is_name_byte, mark_is, piece_within}

-- a kind and a length, as a spelling at the beginning of a text
abbrev Spells : List ℕ → TokenKind × ℕ → Type 0
Spells text token = IsSpelling token.0 (take token.1 text)

run_passes : (p : ℕ → Bool) (text : List ℕ) → list_all p (take_while p text) ≡ true
run_passes p [] = refl
run_passes p (b ∷ bs) = ap (list_all p) (take_while-cons p b bs) ∙ run_passes_by (p b) refl (run_passes p bs) where
  run_passes_by : (t : Bool) → p b ≡ t → list_all p (take_while p bs) ≡ true → list_all p (cond t (b ∷ take_while p bs) []) ≡ true
  run_passes_by true e h = and_from (p b) (list_all p (take_while p bs)) e h
  run_passes_by false e h = refl

word_is : (text : List ℕ) → begins_name text ≡ true → IsWord (word_of text)
word_is [] e = absurd cc
word_is (b ∷ bs) e =
    let here : word_of (b ∷ bs) ≡ b ∷ word_of bs = take_while-cons is_name_byte b bs ∙ ap (λ (t : Bool). cond t (b ∷ word_of bs) []) (letter_is_name_byte b e) in
    (ap begins_name here ∙ e, run_passes is_name_byte (b ∷ bs))

begins : (text : List ℕ) → 0 < length text → is_letter (get_or text 0 0) ≡ true → begins_name text ≡ true
begins [] lt e = absurd (omega arith)
begins (b ∷ bs) lt e = e

named : (word : List ℕ) (o : Option Keyword) → keyword_of word ≡ o → IsWord word → IsSpelling (name_kind o) word
named word None e is = (is, e)
named word (Some keyword) e is = (is, e)

spelled_name : (text : List ℕ) → 0 < length text → is_letter (get_or text 0 0) ≡ true → Spells text (name_at text)
spelled_name text lt e = named (word_of text) (keyword_of (word_of text)) refl (word_is text (begins text lt e))

-- the text after one byte
one_and : (n b : ℕ) (text : List ℕ) → 0 < length text → get_or text 0 0 ≡ b → take (1 + n) text ≡ b ∷ take n (drop 1 text)
one_and n b [] lt e = absurd (omega arith)
one_and n b (x ∷ xs) lt e = take-add 1 n (x ∷ xs) ∙ ap (λ (y : ℕ). y ∷ take n xs) e

spelled_directive : (text : List ℕ) (token : TokenKind × ℕ) → 0 < length text → get_or text 0 0 ≡ 46 → directive_at text ≡ Ok token → Spells text token
unfolding directive_at
spelled_directive text token lt dot e =
    let rest = drop 1 text in
    let word = word_of rest in
    let d = directive_of word in
    elim (chosen (not (begins_name rest)) (Err BadByte) (Ok (kind.Directive d, 1 + prefix_len is_name_byte rest)) (Ok token) e) [
      | inl h ↦ absurd (cc (h.1))
      | inr h ↦
          let whole : take (1 + prefix_len is_name_byte rest) text ≡ 46 ∷ word = one_and (prefix_len is_name_byte rest) 46 text lt dot in
          let named : begins_name rest ≡ true = not-false (begins_name rest) h.0 in
          let base : IsSpelling (kind.Directive d) (46 ∷ word) = (refl, word_is rest named, refl) in
          subst (Spells text) (ok_is (kind.Directive d, 1 + prefix_len is_name_byte rest) token h.1) (subst (IsSpelling (kind.Directive d)) (sym whole) base)
    ]

within_is : (m n : ℕ) → within m ≡ Some n → n ≤ 2147483647
within_is m n e = within_by (leb m 2147483647) refl e where
  within_by : (b : Bool) → leb m 2147483647 ≡ b → cond b (Some m) None ≡ Some n → n ≤ 2147483647
  within_by true h q = let same : m ≡ n = cc in let le = leb-true m 2147483647 h in omega arith
  within_by false h q = absurd cc

numeral_is : (radix : ℕ) (ds : List ℕ) (n : ℕ) → numeral radix ds ≡ Some n → n ≤ 2147483647
numeral_is radix ds n e = elim (chosen _ (within (digits_value radix ds)) None (Some n) e) [
  | inl h ↦ within_is (digits_value radix ds) n h.1
  | inr h ↦ absurd (cc (h.1))
]

number_is : (word : List ℕ) (n : ℕ) → word_number word ≡ Some n → n ≤ 2147483647
unfolding word_number
number_is word n e =
    let hex = begins_with (codes "0x") word || begins_with (codes "0X") word in
    let bin = begins_with (codes "0b") word || begins_with (codes "0B") word in
    elim (chosen hex (numeral 16 (drop 2 word)) (cond bin (numeral 2 (drop 2 word)) (numeral 10 word)) (Some n) e) [
      | inl h ↦ numeral_is 16 (drop 2 word) n h.1
      | inr h0 ↦ elim (chosen bin (numeral 2 (drop 2 word)) (numeral 10 word) (Some n) h0.1) [
        | inl h ↦ numeral_is 2 (drop 2 word) n h.1
        | inr h ↦ numeral_is 10 word n h.1
      ]
    ]

spelled_number : (text : List ℕ) (token : TokenKind × ℕ) → number_at text ≡ Ok token → Spells text token
spelled_number text token e = spelled_by (word_number (word_of text)) refl e where
  spelled_by : (o : Option ℕ) → word_number (word_of text) ≡ o → counted (prefix_len is_name_byte text) o ≡ Ok token → Spells text token
  spelled_by None h q = absurd cc
  spelled_by (Some n) h q = subst (Spells text) (ok_is (kind.Number n, prefix_len is_name_byte text) token q) (run_passes is_name_byte text, h, number_is (word_of text) n h)

same_bytes : (mark text : List ℕ) → bytes_eq mark text ≡ true → text ≡ mark
same_bytes [] [] e = refl
same_bytes [] (x ∷ xs) e = absurd cc
same_bytes (a ∷ as') [] e = absurd cc
same_bytes (a ∷ as') (x ∷ xs) e =
    let p = and_parts (eqb a x) (bytes_eq as' xs) e in
    ap (λ (y : ℕ). y ∷ xs) (sym (eqb-true a x p.0)) ∙ ap (λ (ys : List ℕ). a ∷ ys) (same_bytes as' xs p.1)

spelled_pair : (text : List ℕ) (a b : ℕ) (k : TokenKind) (token : TokenKind × ℕ) → begins_with (a ∷ b ∷ []) text ≡ true → IsSpelling k (a ∷ b ∷ []) → ◌≡◌ {A = Option (TokenKind × ℕ)} (Some (k, 2)) (Some token) → Spells text token
spelled_pair text a b k token e is q =
    let whole : take 2 text ≡ a ∷ b ∷ [] = same_bytes (a ∷ b ∷ []) (take 2 text) e in
    let same : ◌≡◌ {A = TokenKind × ℕ} (k, 2) token = cc in
    subst (Spells text) same (subst (IsSpelling k) (sym whole) is)

one : (b code : ℕ) (m k : TokenKind) (rest : Option TokenKind) → IsSpelling m (code ∷ []) → (rest ≡ Some k → IsSpelling k (b ∷ [])) → cond (eqb b code) (Some m) rest ≡ Some k → IsSpelling k (b ∷ [])
one b code m k rest is next e = one_by (eqb b code) refl e where
  one_by : (t : Bool) → eqb b code ≡ t → cond t (Some m) rest ≡ Some k → IsSpelling k (b ∷ [])
  one_by true h q =
      let same : m ≡ k = cc in
      subst (λ (j : TokenKind). IsSpelling j (b ∷ [])) same (subst (λ (c : ℕ). IsSpelling m (c ∷ [])) (sym (eqb-true b code h)) is)
  one_by false h q = next q

spelled_byte : (b : ℕ) (k : TokenKind) → byte_mark b ≡ Some k → IsSpelling k (b ∷ [])
spelled_byte b k =
    one b 44 kind.Comma k _ refl (one b 58 kind.Colon k _ refl (one b 91 kind.OpenBracket k _ refl (one b 93 kind.CloseBracket k _ refl
    (one b 40 kind.OpenParen k _ refl (one b 41 kind.CloseParen k _ refl (one b 43 kind.Plus k _ refl (one b 45 kind.Minus k _ refl
    (one b 42 kind.Star k _ refl (one b 47 kind.Slash k _ refl (one b 33 kind.Bang k _ refl (one b 126 kind.Tilde k None refl (λ e. absurd cc))))))))))))

first_alone : (text : List ℕ) → 0 < length text → take 1 text ≡ get_or text 0 0 ∷ []
first_alone [] lt = absurd (omega arith)
first_alone (b ∷ bs) lt = refl

spelled_mark : (text : List ℕ) (token : TokenKind × ℕ) → 0 < length text → mark_at text ≡ Some token → Spells text token
unfolding mark_at
spelled_mark text token lt e =
    elim (chosen (begins_with (codes "::") text) _ _ _ e) [
      | inl h ↦ spelled_pair text 58 58 kind.DoubleColon token h.0 refl h.1
      | inr h0 ↦ elim (chosen (begins_with (codes "--") text) _ _ _ h0.1) [
        | inl h ↦ spelled_pair text 45 45 kind.MinusMinus token h.0 refl h.1
        | inr h1 ↦ elim (chosen (begins_with (codes "!=") text) _ _ _ h1.1) [
          | inl h ↦ spelled_pair text 33 61 kind.NotEqual token h.0 refl h.1
          | inr h2 ↦ byte (byte_mark (get_or text 0 0)) refl h2.1
        ]
      ]
    ] where
      byte : (o : Option TokenKind) → byte_mark (get_or text 0 0) ≡ o → ◌≡◌ {A = Option (TokenKind × ℕ)} (option_map {U = TokenKind × ℕ} (λ mark. (mark, 1)) o) (Some token) → Spells text token
      byte None h q = absurd cc
      byte (Some k) h q =
          let same : ◌≡◌ {A = TokenKind × ℕ} (k, 1) token = cc in
          subst (Spells text) same (subst (IsSpelling k) (sym (first_alone text lt)) (spelled_byte (get_or text 0 0) k h))

spelled_token : (text : List ℕ) (token : TokenKind × ℕ) → 0 < length text → token_at text ≡ Ok token → Spells text token
unfolding token_at
spelled_token text token lt e =
    let b = get_or text 0 0 in
    elim (chosen (is_newline b) _ _ _ e) [
      | inl h ↦ subst (Spells text) (ok_is (kind.Newline, 1) token h.1) (first_alone text lt ∙ ap (λ (x : ℕ). x ∷ []) (eqb-true b 10 h.0))
      | inr h0 ↦ elim (chosen (is_letter b) _ _ _ h0.1) [
        | inl h ↦ subst (Spells text) (ok_is (name_at text) token h.1) (spelled_name text lt h.0)
        | inr h1 ↦ elim (chosen (eqb b 46) _ _ _ h1.1) [
          | inl h ↦ spelled_directive text token lt (eqb-true b 46 h.0) h.1
          | inr h2 ↦ elim (chosen (is_ascii_digit b) _ _ _ h2.1) [
            | inl h ↦ spelled_number text token h.1
            | inr h3 ↦ spelled_mark text token lt (mark_of text token h3.1)
          ]
        ]
      ]
    ] where
      mark_of : (text : List ℕ) (token : TokenKind × ℕ) → ok_or (mark_at text) BadByte ≡ Ok token → mark_at text ≡ Some token
      mark_of text token q = mark_is (mark_at text) token.0 token.1 q

-- the token that a piece is
token_of : (last : Option TokenKind) (text : List ℕ) (k : TokenKind) (n : ℕ) → piece_at last text ≡ Ok (piece.Token k n) → token_at text ≡ Ok (k, n)
unfolding piece_at
token_of last text k n e = by_gap (gap_at last text) e where
  by_token : (r : Result (TokenKind × ℕ) LexKind) → token_piece r ≡ Ok (piece.Token k n) → r ≡ Ok (k, n)
  by_token (Ok token) q = let a : token.0 ≡ k = cc in let b : token.1 ≡ n = cc in ap (λ (p : TokenKind × ℕ). Ok p) (λ i. (a i, b i))
  by_token (Err f) q = absurd cc

  by_gap : (g : Result (Option ℕ) LexKind) → piece_by g text ≡ Ok (piece.Token k n) → token_at text ≡ Ok (k, n)
  by_gap (Ok (Some m)) q = absurd cc
  by_gap (Ok None) q = by_token (token_at text) q
  by_gap (Err f) q = absurd cc

tokens_spelled : (source : List ℕ) (place : Place) (p : Piece) → IsAt source place p → All (IsTokenOf source) (tokens_of (line_at source place.at) place.at p)
tokens_spelled source place (piece.Gap n) s = All-nil (IsTokenOf source)
tokens_spelled source place (piece.Token k n) s =
    let text = drop place.at source in
    let lt = s.before_end in
    let left = length-drop place.at source in
    let some : 0 < length text = omega arith in
    let fits = piece_within (last_kind place.tokens) text (piece.Token k n) some s.is_there in
    All-cons (IsTokenOf source) _ [] (record {
      some = fits.0;
      within = omega (arith, fits.1);
      on_line = refl;
      spelled = spelled_token text (k, n) some (token_of (last_kind place.tokens) text k n s.is_there);
      longest = token_longest text k n some (token_of (last_kind place.tokens) text k n s.is_there);
    }) (All-nil (IsTokenOf source))

between : (source : List ℕ) (from : Place) (pieces : List Piece) (to : Place) → AreBetween source from pieces to → All (IsTokenOf source) from.tokens → All (IsTokenOf source) to.tokens
between source from [] to h all = subst (λ (p : Place). All (IsTokenOf source) p.tokens) h all
between source from (p ∷ ps) to h all = between source (after source from p) ps to h.1 (All-append (IsTokenOf source) from.tokens (tokens_of (line_at source from.at) from.at p) all (tokens_spelled source from p h.0))

pub all_spelled : (source : List ℕ) (tokens : List Token) → IsTokens source tokens → All (IsTokenOf source) tokens
all_spelled source tokens h = between source start h.pieces _ h.whole (All-nil (IsTokenOf source))
