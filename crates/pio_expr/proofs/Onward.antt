-- No rule of the grammar steps back.
use Rattle.std.proofs.Common.{ℕ, zero, suc, ◌+◌, List, length, Option, Some, None, Ok, arith}
use Rattle.pio_lex.specs.declared.token.Token.{Token}
use Rattle.pio_expr.specs.declared.expr.Item.TheVariants as item
use Rattle.pio_expr.specs.declared.mark.TokenMark.{TokenMark}
use Rattle.pio_expr.specs.declared.mark.TokenMark.TheVariants as mark
use Rattle.pio_expr.specs.Marks.{mark_at}
use Rattle.pio_expr.specs.Grammar.{Progress, Parser, Readers, readers, readers_by, value_by, unary_by, level_by, next, written, value_read, closed, closed_by, alone, alone_by, product_by, product_goes_on, sum_by, sum_goes_on, product_operation, sum_operation}
use Rattle.pio_expr.proofs.Chains.{Reaches, Onward, reaches_then, reaches_sooner, chain_onward}

closed_on : (m : TokenMark) (place : Progress) → Reaches place.at (closed_by m place)
closed_on mark.Close place = omega arith
closed_on _ place = tt

alone_on : (m : TokenMark) (at : ℕ) (place : Progress) → Reaches place.at (alone_by m at place)
alone_on mark.Star at place = tt
alone_on mark.Slash at place = tt
alone_on mark.Plus at place = tt
alone_on mark.Minus at place = tt
alone_on _ at place = omega arith

pub product_onward : (tokens : List Token) (unary : Parser) → Onward unary → Onward (product_by tokens unary)
product_onward tokens unary on place = reaches_then place.at (unary place) (product_goes_on tokens unary) (on place) (chain_onward tokens product_operation unary (length tokens) on)

pub sum_onward : (tokens : List Token) (unary : Parser) → Onward unary → Onward (sum_by tokens unary)
sum_onward tokens unary on place = reaches_then place.at (product_by tokens unary place) (sum_goes_on tokens unary) (product_onward tokens unary on place) (chain_onward tokens sum_operation (product_by tokens unary) (length tokens) (product_onward tokens unary on))

-- three rules that don't step back
pub record AreOnward (rules : Readers) : Type 0 where
  pub value : Onward rules.value
  pub unary : Onward rules.unary
  pub level : Onward rules.level

abbrev Deeper : Option Readers → Type 0
Deeper None = Unit {0}
Deeper (Some rules) = AreOnward rules

value_on : (source : List ℕ) (tokens : List Token) (m : TokenMark) (deeper : Option Readers) (place : Progress) → Deeper deeper → Reaches place.at (value_by source tokens m deeper place)
unfolding value_read
value_on source tokens mark.Value deeper place h = omega arith
value_on source tokens mark.Open None place h = tt
value_on source tokens mark.Open (Some rules) place h = reaches_then place.at (rules.level (next place)) (closed tokens) (reaches_sooner place.at (place.at + 1) (rules.level (next place)) (omega arith) (h.level (next place))) (λ p. closed_on (mark_at tokens p.at) p)
value_on source tokens _ deeper place h = tt

unary_on : (source : List ℕ) (tokens : List Token) (m : TokenMark) (deeper : Option Readers) (place : Progress) → Deeper deeper → Reaches place.at (unary_by source tokens m deeper place)
unary_on source tokens mark.Minus None place h = tt
unary_on source tokens mark.Minus (Some rules) place h = reaches_then place.at (rules.unary (next place)) (λ after. Ok (written item.Negate after)) (reaches_sooner place.at (place.at + 1) (rules.unary (next place)) (omega arith) (h.unary (next place))) (λ p. omega arith)
unary_on source tokens mark.Reverse None place h = tt
unary_on source tokens mark.Reverse (Some rules) place h = tt
unary_on source tokens m deeper place h = value_on source tokens m deeper place h

level_on : (source : List ℕ) (tokens : List Token) (m : TokenMark) (deeper : Option Readers) (unary : Parser) (place : Progress) → Deeper deeper → Onward unary → Reaches place.at (level_by source tokens m deeper unary place)
level_on source tokens mark.Reverse None unary place h on = tt
level_on source tokens mark.Reverse (Some rules) unary place h on = reaches_then place.at (rules.value (next place)) (alone tokens place.at) (reaches_sooner place.at (place.at + 1) (rules.value (next place)) (omega arith) (h.value (next place))) (λ p. alone_on (mark_at tokens p.at) place.at (written item.Reverse p))
level_on source tokens m deeper unary place h on = sum_onward tokens unary on place

rules_on : (source : List ℕ) (tokens : List Token) (deeper : Option Readers) → Deeper deeper → AreOnward (readers_by source tokens deeper)
rules_on source tokens deeper h = record {
  value = λ place. value_on source tokens (mark_at tokens place.at) deeper place h;
  unary = λ place. unary_on source tokens (mark_at tokens place.at) deeper place h;
  level = λ place. level_on source tokens (mark_at tokens place.at) deeper (readers_by source tokens deeper).unary place h (λ p. unary_on source tokens (mark_at tokens p.at) deeper p h);
}

pub readers_onward : (source : List ℕ) (tokens : List Token) (n : ℕ) → AreOnward (readers source tokens n)
unfolding readers
readers_onward source tokens zero = rules_on source tokens None tt
readers_onward source tokens (suc n) = rules_on source tokens (Some (readers source tokens n)) (readers_onward source tokens n)
