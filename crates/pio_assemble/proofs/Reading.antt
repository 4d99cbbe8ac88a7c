-- The lines of tokens, one at a time.
use Rattle.std.proofs.Common.{◌≡◌, ℕ, zero, suc, ◌-◌, ◌<◌, ◌≤◌, ◌++◌, ◌∷◌, [], List, length, Some, None, slice_get, refl, ap, sym, ◌∙◌, arith, append_assoc, length-append}
use Rattle.pio_lex.specs.declared.token.Token.{Token}
use Rattle.pio_statement.specs.Lines.{line_end}
use Rattle.pio_assemble.specs.declared.line.SourceLine.{SourceLine}
use Rattle.pio_assemble.specs.Lines.{lines_from, line_at}

-- where a token is left, a line begins
one_line : (more : ℕ) (source : List ℕ) (tokens : List Token) (at : ℕ) (first : Token) → slice_get tokens at ≡ Some first → 0 < more → lines_from more source tokens at ≡ line_at source tokens at first ∷ lines_from (more - 1) source tokens (line_end tokens at)
unfolding lines_from
one_line zero source tokens at first here some = absurd (omega (arith, some))
one_line (suc more) source tokens at first here some =
    let less : suc more - 1 ≡ more = omega arith in
    rw (here, less) refl

-- a line more is read
pub line_read : (lines : List SourceLine) (source : List ℕ) (tokens : List Token) (at : ℕ) (first : Token) (all : List SourceLine) → slice_get tokens at ≡ Some first → at < length tokens → length lines ≤ at
    → lines ++ lines_from (length tokens - length lines) source tokens at ≡ all
    → (lines ++ line_at source tokens at first ∷ []) ++ lines_from (length tokens - length (lines ++ line_at source tokens at first ∷ [])) source tokens (line_end tokens at) ≡ all
line_read lines source tokens at first all here left count h =
    let one = one_line (length tokens - length lines) source tokens at first here (omega arith) in
    let more = length-append lines (line_at source tokens at first ∷ []) in
    let less : length tokens - length (lines ++ line_at source tokens at first ∷ []) ≡ length tokens - length lines - 1 = rw more (omega arith) in
    rw less (append_assoc lines (line_at source tokens at first ∷ []) _ ∙ ap (λ rest. lines ++ rest) (sym one) ∙ h)

-- at the end no line is left
pub none_left : (more : ℕ) (source : List ℕ) (tokens : List Token) (at : ℕ) → slice_get tokens at ≡ None → lines_from more source tokens at ≡ []
unfolding lines_from
none_left zero source tokens at end = refl
none_left (suc more) source tokens at end = rw end refl
