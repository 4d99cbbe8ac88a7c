-- A chain takes all that it can: the number of its steps, which is that of the tokens, never ends it. And no rule steps back.
use Rattle.std.proofs.Common.{◌≡◌, ℕ, zero, suc, ◌+◌, ◌≤◌, List, length, Option, Some, None, Ok, Err, refl, ap, sym, ◌∙◌, arith}
use Rattle.std.proofs.lemmas.Option.{slice_get_past}
use Rattle.pio_lex.specs.declared.token.Token.{Token}
use Rattle.pio_expr.specs.declared.expr.Item.{Item}
use Rattle.pio_expr.specs.declared.mark.TokenMark.{TokenMark}
use Rattle.pio_expr.specs.declared.mark.TokenMark.TheVariants as mark
use Rattle.pio_expr.specs.Marks.{mark_at, mark_by}
use Rattle.pio_expr.specs.Grammar.{Progress, ParseResult, Parser, then, next, written, chain, chain_by}

-- what was read is at this place or after it
abbrev pub Reaches : ℕ → ParseResult → Type 0
Reaches from (Ok place) = from ≤ place.at
Reaches from (Err fault) = Unit {0}

-- a rule doesn't step back
abbrev pub Onward : Parser → Type 0
Onward reader = (place : Progress) → Reaches place.at (reader place)

pub reaches_then : (from : ℕ) (read : ParseResult) (reader : Parser) → Reaches from read → Onward reader → Reaches from (then read reader)
reaches_then from (Ok place) reader h on = reaches_on from place.at (reader place) h (on place) where
  reaches_on : (a b : ℕ) (read : ParseResult) → a ≤ b → Reaches b read → Reaches a read
  reaches_on a b (Ok place) h k = omega (arith, h, k)
  reaches_on a b (Err fault) h k = tt
reaches_then from (Err fault) reader h on = tt

pub reaches_sooner : (a b : ℕ) (read : ParseResult) → a ≤ b → Reaches b read → Reaches a read
reaches_sooner a b (Ok place) h k = omega (arith, h, k)
reaches_sooner a b (Err fault) h k = tt

chain_step_onward : (operand : Parser) (rest : Item → Parser) (o : Option Item) (place : Progress) → Onward operand → ((operation : Item) → Onward (rest operation)) → Reaches place.at (chain_by operand rest o place)
chain_step_onward operand rest None place on more = omega arith
chain_step_onward operand rest (Some operation) place on more =
    reaches_then place.at (operand (next place)) (rest operation) (reaches_sooner place.at (place.at + 1) (operand (next place)) (omega arith) (on (next place))) (more operation)

pub chain_onward : (tokens : List Token) (operation_of : TokenMark → Option Item) (operand : Parser) (n : ℕ) → Onward operand → Onward (chain tokens operation_of operand n)
unfolding chain
chain_onward tokens operation_of operand zero on place = omega arith
chain_onward tokens operation_of operand (suc n) on place =
    chain_step_onward operand (λ operation after. chain tokens operation_of operand n (written operation after)) (operation_of (mark_at tokens place.at)) place on (λ operation after. chain_onward tokens operation_of operand n on (written operation after))

-- after the last token is none
pub no_mark : (tokens : List Token) (at : ℕ) → length tokens ≤ at → mark_at tokens at ≡ mark.Other
unfolding mark_at
no_mark tokens at h = ap mark_by (slice_get_past tokens at h)

same_steps : (rest1 rest2 : Item → Parser) (operand : Parser) (o : Option Item) (place : Progress) → Onward operand → ((operation : Item) (after : Progress) → place.at + 1 ≤ after.at → rest1 operation after ≡ rest2 operation after) → chain_by operand rest1 o place ≡ chain_by operand rest2 o place
same_steps rest1 rest2 operand None place on same = refl
same_steps rest1 rest2 operand (Some operation) place on same = by_operand (operand (next place)) (on (next place)) where
  by_operand : (read : ParseResult) → Reaches (place.at + 1) read → then read (rest1 operation) ≡ then read (rest2 operation)
  by_operand (Ok after) h = same operation after h
  by_operand (Err fault) h = refl

ends : (tokens : List Token) (operation_of : TokenMark → Option Item) (operand : Parser) (n : ℕ) (place : Progress) → operation_of (mark_at tokens place.at) ≡ None → chain tokens operation_of operand n place ≡ Ok place
unfolding chain
ends tokens operation_of operand zero place none = refl
ends tokens operation_of operand (suc n) place none = rw none refl

-- the number of steps doesn't matter, where it reaches the last token
any_number : (tokens : List Token) (operation_of : TokenMark → Option Item) (operand : Parser) (m n : ℕ) (place : Progress) → operation_of mark.Other ≡ None → Onward operand → length tokens ≤ m + place.at → length tokens ≤ n + place.at → chain tokens operation_of operand m place ≡ chain tokens operation_of operand n place
unfolding chain
any_number tokens operation_of operand zero n place other on few many =
    sym (ends tokens operation_of operand n place (ap operation_of (no_mark tokens place.at (omega (arith, few))) ∙ other))
any_number tokens operation_of operand (suc m) zero place other on few many =
    ends tokens operation_of operand (suc m) place (ap operation_of (no_mark tokens place.at (omega (arith, many))) ∙ other)
any_number tokens operation_of operand (suc m) (suc n) place other on few many =
    same_steps (λ operation after. chain tokens operation_of operand m (written operation after)) (λ operation after. chain tokens operation_of operand n (written operation after)) operand (operation_of (mark_at tokens place.at)) place on
    (λ operation after h. any_number tokens operation_of operand m n (written operation after) other on (omega (arith, few, h)) (omega (arith, many, h)))

-- a whole chain: no operation, or one, its operand and a whole chain
pub chain_on : (tokens : List Token) (operation_of : TokenMark → Option Item) (operand : Parser) (place : Progress) → operation_of mark.Other ≡ None → Onward operand → chain tokens operation_of operand (length tokens) place ≡ chain_by operand (λ operation after. chain tokens operation_of operand (length tokens) (written operation after)) (operation_of (mark_at tokens place.at)) place
unfolding chain
chain_on tokens operation_of operand place other on = by_number (length tokens) (omega arith) where
  by_number : (n : ℕ) → length tokens ≤ n → chain tokens operation_of operand n place ≡ chain_by operand (λ operation after. chain tokens operation_of operand n (written operation after)) (operation_of (mark_at tokens place.at)) place
  by_number zero few = let none : operation_of (mark_at tokens place.at) ≡ None = ap operation_of (no_mark tokens place.at (omega (arith, few))) ∙ other in rw none refl
  by_number (suc n) few =
      same_steps (λ operation after. chain tokens operation_of operand n (written operation after)) (λ operation after. chain tokens operation_of operand (suc n) (written operation after)) operand (operation_of (mark_at tokens place.at)) place on
      (λ operation after h. any_number tokens operation_of operand n (suc n) (written operation after) other on (omega (arith, few, h)) (omega (arith, few, h)))

pub chain_ends : (tokens : List Token) (operation_of : TokenMark → Option Item) (operand : Parser) (place : Progress) → operation_of (mark_at tokens place.at) ≡ None → chain tokens operation_of operand (length tokens) place ≡ Ok place
chain_ends tokens operation_of operand place none = ends tokens operation_of operand (length tokens) place none
