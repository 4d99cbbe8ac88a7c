-- A cursor among the tokens of a source, and what its methods do with it.
--   Position       the source, its tokens, and the place of the next token
--   ReadsValue     a value is read, and the cursor is after it
--   ReadsOptional  the same of what may be left out
--   ReadsWord      the same of a keyword, which has to be there
--   PassesToken    a token that has to be there is passed
--   Enters         a token that may be left out is passed where it is there
use Rattle.std.specs.Prelude.{◌≡◌, ℕ, List, Bool, true, false, Option, Some, None, Result, Ok, Err}
use Rattle.answers.specs.Answers.{Refuses}
use Rattle.pio_lex.specs.declared.keyword.Keyword.{Keyword}
use Rattle.pio_lex.specs.declared.token.Token.{Token}
use Rattle.pio_statement.specs.declared.fault.StatementFault.{StatementFault}
use Rattle.pio_statement.specs.declared.fault.StatementFault.TheVariants.{Found}
use Rattle.pio_statement.specs.declared.fault.StatementKind.{StatementKind}
use Rattle.pio_statement.specs.declared.fault.StatementKind.TheVariants.{Syntax}
use Rattle.pio_statement.specs.Answer.{Read, told}

-- A place among the tokens of a source.
pub record Position : Type 0 where
  pub source : List ℕ
  pub tokens : List Token
  pub at : ℕ

-- the cursor is at this place of the same tokens
abbrev pub MovesTo : Position → Position → ℕ → Type 0
MovesTo old new at = (new.at ≡ at) × (new.source ≡ old.source) × (new.tokens ≡ old.tokens)

-- a value is what is read, and the cursor is after it; or a fault is the one that is met; want of memory is allowed
abbrev pub ReadsValue : {X : Type 0} → Result X StatementFault → Position → Position → Read X → Type 0
ReadsValue (Ok x) old new read = (read ≡ Ok (x, new.at)) × (new.source ≡ old.source) × (new.tokens ≡ old.tokens)
ReadsValue (Err fault) old new read = Refuses (told fault) read

-- a value is what is read, and the cursor is after it, or where it was if nothing is there
abbrev pub ReadsOptional : {X : Type 0} → X → Position → Position → X × ℕ → Type 0
ReadsOptional x old new read = (read ≡ (x, new.at)) × (new.source ≡ old.source) × (new.tokens ≡ old.tokens)

-- the keyword that is there is taken; where none is, the line has no such statement
abbrev pub ReadsWord : Result Keyword StatementFault → Position → Position → Option (Keyword × ℕ) → Type 0
ReadsWord (Ok word) old new found = (found ≡ Some (word, new.at)) × (new.source ≡ old.source) × (new.tokens ≡ old.tokens)
ReadsWord (Err fault) old new found = (found ≡ None) × (fault ≡ Found Syntax)

-- the cursor is after the token that has to be there; or the fault is told
abbrev pub PassesToken : {X : Type 0} → Result X StatementFault → Position → Position → Result ℕ StatementKind → Type 0
PassesToken (Ok x) old new place = (place ≡ Ok new.at) × (new.source ≡ old.source) × (new.tokens ≡ old.tokens)
PassesToken (Err fault) old new place = Refuses (told fault) place

-- the cursor is after the token, if it is there, and else where it was
abbrev pub Enters : Bool → Position → Position → Option ℕ → Type 0
Enters true old new place = (place ≡ Some new.at) × (new.source ≡ old.source) × (new.tokens ≡ old.tokens)
Enters false old new place = (place ≡ None) × (new ≡ old)
