-- How what `tokens` returns relates to its source.
use Rattle.std.specs.Prelude.{ℕ, List, Result}
use Rattle.answers.specs.Answers as answers
use Rattle.pio_lex.specs.declared.fault.LexFault.{LexFault}
use Rattle.pio_lex.specs.declared.fault.LexFault.TheVariants.{Memory, Found}
use Rattle.pio_lex.specs.declared.token.Token.{Token}
use Rattle.pio_lex.specs.Fault.{LexRefusal, told}
use Rattle.pio_lex.specs.Tokens.{IsFirstFault}

-- a fault is the first one of the source
abbrev pub IsFaultOf : List ℕ → LexFault → Type 0
IsFaultOf source Memory = Unit {0}
IsFaultOf source (Found line kind) = IsFirstFault source line kind

-- a returned value, seen by a view, has these tokens, or a returned fault tells this refusal; want of memory is allowed
abbrev pub Gives : {X : Type 0} → (X → List Token) → Result X LexFault → Result (List Token) LexRefusal → Type 0
Gives view result reading = answers.Gives told view result reading
