-- The tokens of the numbers of a text: 0 to 32.
--   Follow         what comes after a number or a word
--   all_below      a test of each number below one
--   numbered       a row that begins with a number
--   spaced         a row that begins with a blank and a number
use Rattle.std.proofs.Common.{◌≡◌, ℕ, zero, suc, ◌<◌, ◌==◌, ◌&&◌, inl, inr, Bool, true, false, List, [], ◌∷◌, ◌++◌, length, None, Result, Ok, refl, sym, ap, subst, ◌∙◌, arith}
use Rattle.std.specs.Prelude.{decimal}
use Rattle.std.specs.Fmt.{digits}
use Rattle.std.proofs.Math.Seq.{drop-append_seam}
use Rattle.std.proofs.lemmas.Bool.{and_parts, cases_lt, eqb-true}
use Rattle.pio_lex.specs.declared.fault.LexKind.{LexKind}
use Rattle.pio_lex.specs.declared.token.TokenKind.TheVariants as kind
use Rattle.pio_lex.specs.declared.piece.Piece.{Piece}
use Rattle.pio_lex.specs.declared.piece.Piece.TheVariants as piece
use Rattle.pio_lex.specs.Gaps.{gap_at, opens_block}
use Rattle.pio_lex.specs.Numbers.{word_number}
use Rattle.pio_lex.specs.Spellings.{token_at}
use Rattle.pio_lex.specs.Pieces.{piece_at}
use Rattle.pio_assemble.proofs.TextRows.{may_be_first, AreRow}

-- what comes after a number or a word: nothing, a blank, or the bracket that closes a delay
pub data Follow : Type 0 where
  nothing : Follow
  blank : List ℕ → Follow
  bracket : List ℕ → Follow

-- its bytes
abbrev pub after : Follow → List ℕ
after nothing = []
after (blank rest) = 32 ∷ rest
after (bracket rest) = 93 ∷ rest

-- a number's piece
abbrev pub number : ℕ → Piece
number n = piece.Token (kind.Number n) (length (decimal n))

-- a piece is at the beginning of a text
abbrev pub IsFirst : List ℕ → Piece → Type 0
IsFirst text p = (may_be_first text p ≡ true) × (piece_at None text ≡ Ok p)

-- a test of each number below one
abbrev pub all_below : (ℕ → Bool) → ℕ → Bool
all_below test zero = true
all_below test (suc k) = test k && all_below test k

-- it passes for each
pub each_below : (test : ℕ → Bool) (k : ℕ) → all_below test k ≡ true → (n : ℕ) → n < k → test n ≡ true
each_below test zero all n h = absurd (omega arith)
each_below test (suc k) all n h =
    let both = and_parts (test k) (all_below test k) all in
    elim (cases_lt n k) [
      | inl less ↦ each_below test k both.1 n less
      | inr more ↦ let same : k ≡ n = omega arith in ap test (sym same) ∙ both.0
    ]

-- a gap of one byte
abbrev gives_gap : Result Piece LexKind → Bool
gives_gap (Ok (piece.Gap n)) = n == 1
gives_gap _ = false

-- and this number
abbrev gives_number : ℕ → Result Piece LexKind → Bool
gives_number n (Ok (piece.Token (kind.Number value) size)) = value == n && (size == length (decimal n))
gives_number n _ = false

gap_given : (r : Result Piece LexKind) → gives_gap r ≡ true → r ≡ Ok (piece.Gap 1)
gap_given (Ok (piece.Gap n)) h = ap (λ (m : ℕ). Ok (piece.Gap m)) (eqb-true n 1 h)
gap_given _ h = absurd cc

number_given : (n : ℕ) (r : Result Piece LexKind) → gives_number n r ≡ true → r ≡ Ok (number n)
number_given n (Ok (piece.Token (kind.Number value) size)) h =
    let both = and_parts (value == n) (size == length (decimal n)) h in
    let same : value ≡ n = eqb-true value n both.0 in
    let long : size ≡ length (decimal n) = eqb-true size (length (decimal n)) both.1 in
    rw (same, long) refl
number_given n _ h = absurd cc

-- the test of a blank before a number
abbrev gap_test : List ℕ → Bool
gap_test text = may_be_first text (piece.Gap 1) && gives_gap (piece_at None text)

-- and of a number
abbrev number_test : ℕ → List ℕ → Bool
number_test n text = may_be_first text (number n) && gives_number n (piece_at None text)

gap_is_first : (text : List ℕ) → gap_test text ≡ true → IsFirst text (piece.Gap 1)
gap_is_first text h =
    let both = and_parts (may_be_first text (piece.Gap 1)) (gives_gap (piece_at None text)) h in
    (both.0, gap_given (piece_at None text) both.1)

number_is_first : (n : ℕ) (text : List ℕ) → number_test n text ≡ true → IsFirst text (number n)
number_is_first n text h =
    let both = and_parts (may_be_first text (number n)) (gives_number n (piece_at None text)) h in
    (both.0, number_given n (piece_at None text) both.1)

-- 0 to 32, by computing the tests
gaps : (rest : List ℕ) → all_below (λ n. gap_test (32 ∷ decimal n ++ rest)) 33 ≡ true
unfolding digits piece_at gap_at opens_block token_at word_number
gaps rest = refl

numbers : (f : Follow) → all_below (λ n. number_test n (decimal n ++ after f)) 33 ≡ true
unfolding digits piece_at gap_at opens_block token_at word_number
numbers nothing = refl
numbers (blank rest) = refl
numbers (bracket rest) = refl

-- a number before what comes after it
pub numbered : (n : ℕ) → n < 33 → (f : Follow) (pieces : List Piece) → AreRow (after f) pieces → AreRow (decimal n ++ after f) (number n ∷ pieces)
numbered n h f pieces row =
    let it = number_is_first n (decimal n ++ after f) (each_below (λ m. number_test m (decimal m ++ after f)) 33 (numbers f) n h) in
    (it.0, it.1, subst (λ (t : List ℕ). AreRow t pieces) (sym (drop-append_seam (decimal n) (after f))) row)

-- the same after a blank
pub spaced : (n : ℕ) → n < 33 → (f : Follow) (pieces : List Piece) → AreRow (after f) pieces → AreRow (32 ∷ decimal n ++ after f) (piece.Gap 1 ∷ number n ∷ pieces)
spaced n h f pieces row =
    let it = gap_is_first (32 ∷ decimal n ++ after f) (each_below (λ m. gap_test (32 ∷ decimal m ++ after f)) 33 (gaps (after f)) n h) in
    (it.0, it.1, numbered n h f pieces row)
