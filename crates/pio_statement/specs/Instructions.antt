-- Instructions with their side-set and delay, and words of code (Pico SDK manual, sections 3.3.3 and 3.3.6).
use Rattle.std.specs.Prelude.{ℕ, ◌+◌, List, Option, Some, None, Ok, Err}
use Rattle.pio_lex.specs.declared.directive.Directive.{Directive}
use Rattle.pio_lex.specs.declared.directive.Directive.TheVariants as directive
use Rattle.pio_lex.specs.declared.token.TokenKind.{TokenKind}
use Rattle.pio_lex.specs.declared.token.TokenKind.TheVariants as kind
use Rattle.pio_lex.specs.declared.token.Token.{Token}
use Rattle.pio_expr.specs.declared.expr.Item.{Item}
use Rattle.pio_statement.specs.declared.fault.StatementKind.TheVariants.{Syntax}
use Rattle.pio_statement.specs.declared.instruction.Suffix.{Suffix}
use Rattle.pio_statement.specs.declared.instruction.Suffix.TheVariants as suffix
use Rattle.pio_statement.specs.declared.instruction.Instruction.{Instruction}
use Rattle.pio_statement.specs.declared.statement.Code.{Code}
use Rattle.pio_statement.specs.declared.statement.Code.TheVariants as code
use Rattle.answers.specs.Answers.{◌>>=◌}
use Rattle.pio_statement.specs.Answer.{Read}
use Rattle.pio_statement.specs.Tokens.{kind_at, past_open, past_close, past_side, expression}
use Rattle.pio_statement.specs.Forms.{form_at}

-- a delay after its `[`: `E ]`
unfoldable pub delay_at : List ℕ → List Token → ℕ → Read (List Item)
delay_at source tokens at = do
  delay ← expression source tokens at
  after ← past_close tokens delay.1
  Ok (delay.0, after)

-- what comes after a side-set: `[E]`, or nothing
abbrev pub with_delay : List ℕ → List Token → List Item → Option ℕ → ℕ → Read Suffix
with_delay source tokens side (Some after) at = do
  delay ← delay_at source tokens after
  Ok (suffix.SideDelay side delay.0, delay.1)
with_delay source tokens side None at = Ok (suffix.Side side, at)

-- what comes after a delay: `side E`, or nothing
abbrev pub with_side : List ℕ → List Token → List Item → Option ℕ → ℕ → Read Suffix
with_side source tokens delay (Some after) at = do
  side ← expression source tokens after
  Ok (suffix.DelaySide delay side.0, side.1)
with_side source tokens delay None at = Ok (suffix.Delay delay, at)

-- `side E` or `side E [E]`, after the word
unfoldable pub side_first : List ℕ → List Token → ℕ → Read Suffix
side_first source tokens at = do
  side ← expression source tokens at
  with_delay source tokens side.0 (past_open tokens side.1) side.1

-- `[E]` or `[E] side E`, after the `[`
unfoldable pub delay_first : List ℕ → List Token → ℕ → Read Suffix
delay_first source tokens at = do
  delay ← delay_at source tokens at
  with_side source tokens delay.0 (past_side tokens delay.1) delay.1

-- side-set and delay, by which of the two begins
abbrev pub suffix_by : List ℕ → List Token → Option ℕ → Option ℕ → ℕ → Read Suffix
suffix_by source tokens (Some after) bracket at = side_first source tokens after
suffix_by source tokens None (Some after) at = delay_first source tokens after
suffix_by source tokens None None at = Ok (suffix.None, at)

-- at most one `side E` and one `[E]`, in either order
unfoldable pub suffix_at : List ℕ → List Token → ℕ → Read Suffix
suffix_at source tokens at = suffix_by source tokens (past_side tokens at) (past_open tokens at) at

-- an instruction
unfoldable pub instruction_at : List ℕ → List Token → ℕ → Read Instruction
instruction_at source tokens at = do
  form ← form_at source tokens at
  suffix ← suffix_at source tokens form.1
  Ok (record { form = form.0; suffix = suffix.0 }, suffix.1)

-- `.word E`, after the directive
unfoldable pub word_at : List ℕ → List Token → ℕ → Read Code
word_at source tokens at = do
  value ← expression source tokens at
  Ok (code.Word value.0, value.1)

-- the only directive that is code
abbrev pub code_directive : List ℕ → List Token → Directive → ℕ → Read Code
code_directive source tokens directive.Word at = word_at source tokens at
code_directive source tokens _ at = Err Syntax

-- an instruction as code
abbrev pub instruction_code : List ℕ → List Token → ℕ → Read Code
instruction_code source tokens at = do
  instruction ← instruction_at source tokens at
  Ok (code.Instruction instruction.0, instruction.1)

-- code by its first token
abbrev pub code_by : List ℕ → List Token → Option TokenKind → ℕ → Read Code
code_by source tokens (Some (kind.Directive directive)) at = code_directive source tokens directive (at + 1)
code_by source tokens _ at = instruction_code source tokens at

-- an instruction or a word
unfoldable pub code_at : List ℕ → List Token → ℕ → Read Code
code_at source tokens at = code_by source tokens (kind_at tokens at) at
