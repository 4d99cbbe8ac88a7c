-- What one token does to what is left to read.
use Rattle.std.proofs.Common.{◌≡◌, ◌≢◌, ℕ, zero, suc, Bool, true, false, List, [], ◌∷◌, Option, Some, None, Ok, Err, refl, ap, sym, ◌∙◌}
use Rattle.pio_lex.specs.declared.token.Token.{Token}
use Rattle.pio_expr.specs.declared.mark.TokenMark.{TokenMark}
use Rattle.pio_expr.specs.declared.mark.TokenMark.TheVariants as mark
use Rattle.pio_expr.specs.declared.waiting.Waiting.{Waiting}
use Rattle.pio_expr.specs.declared.waiting.Waiting.TheVariants as waiting
use Rattle.pio_expr.specs.Marks.{mark_at}
use Rattle.pio_expr.specs.Grammar.{Progress, ParseResult, Parser, Readers, readers, readers_by, value_by, unary_by, level_by, then, product_goes_on, sum_by, sum_goes_on, most_open}
use Rattle.pio_expr.specs.Waiting.{rest, left, rest_of_level}
use Rattle.pio_expr.specs.Turns.{innermost, is_reverse}

pub then_assoc : (read : ParseResult) (f g : Parser) → then (then read f) g ≡ then read (λ p. then (f p) g)
then_assoc (Ok place) f g = refl
then_assoc (Err fault) f g = refl

-- the rules after one more opening
abbrev pub deeper_of : List ℕ → List Token → ℕ → Option Readers
deeper_of source tokens zero = None
deeper_of source tokens (suc n) = Some (readers source tokens n)

pub readers_at : (source : List ℕ) (tokens : List Token) (n : ℕ) → readers source tokens n ≡ readers_by source tokens (deeper_of source tokens n)
unfolding readers
readers_at source tokens zero = refl
readers_at source tokens (suc n) = refl

pub value_at : (source : List ℕ) (tokens : List Token) (n : ℕ) (m : TokenMark) (p : Progress) → mark_at tokens p.at ≡ m → (readers source tokens n).value p ≡ value_by source tokens m (deeper_of source tokens n) p
value_at source tokens n m p is = ap (λ (r : Readers). r.value p) (readers_at source tokens n) ∙ ap (λ k. value_by source tokens k (deeper_of source tokens n) p) is

pub unary_at : (source : List ℕ) (tokens : List Token) (n : ℕ) (m : TokenMark) (p : Progress) → mark_at tokens p.at ≡ m → (readers source tokens n).unary p ≡ unary_by source tokens m (deeper_of source tokens n) p
unary_at source tokens n m p is = ap (λ (r : Readers). r.unary p) (readers_at source tokens n) ∙ ap (λ k. unary_by source tokens k (deeper_of source tokens n) p) is

pub level_at : (source : List ℕ) (tokens : List Token) (n : ℕ) (m : TokenMark) (p : Progress) → mark_at tokens p.at ≡ m → (readers source tokens n).level p ≡ level_by source tokens m (deeper_of source tokens n) (readers source tokens n).unary p
level_at source tokens n m p is =
    ap (λ (r : Readers). r.level p) (readers_at source tokens n) ∙ ap (λ k. level_by source tokens k (deeper_of source tokens n) (readers_by source tokens (deeper_of source tokens n)).unary p) is
    ∙ ap (λ (r : Readers). level_by source tokens m (deeper_of source tokens n) r.unary p) (sym (readers_at source tokens n))

-- a parenthesis that doesn't begin with `::` begins with a unary
level_unary : (source : List ℕ) (tokens : List Token) (n : ℕ) (level : Parser) (m : TokenMark) (p : Progress) → mark_at tokens p.at ≡ m → m ≢ mark.Reverse → (rest_of_level source tokens n level).wants p ≡ then ((readers source tokens n).unary p) (rest_of_level source tokens n level).unary
level_unary source tokens n level m p is other = ap (λ read. then read level) (level_at source tokens n m p is ∙ by_mark m other) ∙ joined where
  unary : Parser
  unary = (readers source tokens n).unary

  by_mark : (k : TokenMark) → k ≢ mark.Reverse → level_by source tokens k (deeper_of source tokens n) (readers source tokens n).unary p ≡ sum_by tokens (readers source tokens n).unary p
  by_mark mark.Reverse never = absurd (never refl)
  by_mark _ never = refl

  joined : then (sum_by tokens (readers source tokens n).unary p) level ≡ then ((readers source tokens n).unary p) (rest_of_level source tokens n level).unary
  joined = by_read ((readers source tokens n).unary p) where
    by_read : (read : ParseResult) → then (then (then read (product_goes_on tokens (readers source tokens n).unary)) (sum_goes_on tokens (readers source tokens n).unary)) level ≡ then read (rest_of_level source tokens n level).unary
    by_read (Ok q) = then_assoc (product_goes_on tokens (readers source tokens n).unary q) (sum_goes_on tokens (readers source tokens n).unary) level
    by_read (Err fault) = refl

-- where an operand is wanted that isn't a `::`, a unary is read, but after a `::`, where a value is
pub wants_unary : (source : List ℕ) (tokens : List Token) (ws : List Waiting) (m : TokenMark) (p : Progress) → mark_at tokens p.at ≡ m → m ≢ mark.Reverse → is_reverse (innermost ws) ≡ false → (rest source tokens ws).wants p ≡ then ((readers source tokens (left ws)).unary p) (rest source tokens ws).unary
unfolding rest
wants_unary source tokens [] m p is other not = level_unary source tokens most_open _ m p is other
wants_unary source tokens (waiting.Paren ∷ below) m p is other not = level_unary source tokens _ _ m p is other
wants_unary source tokens (waiting.Reverse at ∷ below) m p is other not = cc
wants_unary source tokens (waiting.Negate ∷ below) m p is other not = refl
wants_unary source tokens (waiting.Multiply ∷ below) m p is other not = refl
wants_unary source tokens (waiting.Divide ∷ below) m p is other not = refl
wants_unary source tokens (waiting.Add ∷ below) m p is other not = refl
wants_unary source tokens (waiting.Subtract ∷ below) m p is other not = refl

pub wants_value : (source : List ℕ) (tokens : List Token) (ws : List Waiting) (p : Progress) → is_reverse (innermost ws) ≡ true → (rest source tokens ws).wants p ≡ then ((readers source tokens (left ws)).value p) (rest source tokens ws).unary
unfolding rest
wants_value source tokens (waiting.Reverse at ∷ below) p top = refl
wants_value source tokens [] p top = cc
wants_value source tokens (w ∷ below) p top = cc

-- where neither a sign nor a `::` is, a value is wanted
pub wants_plain : (source : List ℕ) (tokens : List Token) (ws : List Waiting) (m : TokenMark) (p : Progress) → mark_at tokens p.at ≡ m → m ≢ mark.Reverse → m ≢ mark.Minus → (rest source tokens ws).wants p ≡ then (value_by source tokens m (deeper_of source tokens (left ws)) p) (rest source tokens ws).unary
wants_plain source tokens ws m p is other plain = by_top (is_reverse (innermost ws)) refl where
  by_mark : (k : TokenMark) → k ≢ mark.Reverse → k ≢ mark.Minus → unary_by source tokens k (deeper_of source tokens (left ws)) p ≡ value_by source tokens k (deeper_of source tokens (left ws)) p
  by_mark mark.Reverse never not = absurd (never refl)
  by_mark mark.Minus never not = absurd (not refl)
  by_mark _ never not = refl

  by_top : (b : Bool) → is_reverse (innermost ws) ≡ b → (rest source tokens ws).wants p ≡ then (value_by source tokens m (deeper_of source tokens (left ws)) p) (rest source tokens ws).unary
  by_top true e = wants_value source tokens ws p e ∙ ap (λ read. then read (rest source tokens ws).unary) (value_at source tokens (left ws) m p is)
  by_top false e = wants_unary source tokens ws m p is other e ∙ ap (λ read. then read (rest source tokens ws).unary) (unary_at source tokens (left ws) m p is ∙ by_mark m other plain)
