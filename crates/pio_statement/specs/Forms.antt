-- The forms of the instructions, after their first word (Pico SDK manual, section 3.3.6). E is an expression.
use Rattle.std.specs.Prelude.{ℕ, List, false, Bool, Option, Some, None, Ok, Err}
use Rattle.pio_lex.specs.declared.keyword.Keyword.{Keyword}
use Rattle.pio_lex.specs.declared.keyword.Keyword.TheVariants as keyword
use Rattle.pio_lex.specs.declared.token.Token.{Token}
use Rattle.pio_encode.specs.declared.act.WaitSource.{WaitSource}
use Rattle.pio_encode.specs.declared.act.WaitSource.TheVariants as wait_source
use Rattle.pio_statement.specs.declared.fault.StatementKind.TheVariants.{Syntax}
use Rattle.pio_statement.specs.declared.instruction.Form.{Form}
use Rattle.pio_statement.specs.declared.instruction.Form.TheVariants as form
use Rattle.answers.specs.Answers.{◌>>=◌}
use Rattle.pio_statement.specs.Answer.{Read}
use Rattle.pio_statement.specs.Tokens.{past_comma, keyword_at, expression}
use Rattle.pio_statement.specs.Operands.{wait_source_at, in_source_at, out_destination_at, mov_destination_at, mov_source_at, set_destination_at, operation_at, irq_mode_at, blocking_at, if_full_at, if_empty_at, relative_at}
use Rattle.pio_statement.specs.Conditions.{condition_at, past_condition}

-- `jmp [cond,] E`
unfoldable pub jmp_at : List ℕ → List Token → ℕ → Read Form
jmp_at source tokens at = do
  condition ← condition_at tokens at
  target ← expression source tokens (past_condition tokens condition.0 condition.1)
  Ok (form.Jmp condition.0 target.0, target.1)

-- `[rel]`, after an IRQ flag alone
abbrev pub wait_relative : List Token → WaitSource → ℕ → Bool × ℕ
wait_relative tokens wait_source.Irq at = relative_at tokens at
wait_relative tokens _ at = (false, at)

-- `wait E gpio, E`, `wait E pin, E`, `wait E irq, E [rel]`
unfoldable pub wait_at : List ℕ → List Token → ℕ → Read Form
wait_at source tokens at = do
  polarity ← expression source tokens at
  looked_at ← wait_source_at tokens polarity.1
  index ← expression source tokens (past_comma tokens looked_at.1)
  let relative = wait_relative tokens looked_at.0 index.1
  Ok (form.Wait polarity.0 looked_at.0 index.0 relative.0, relative.1)

-- `in src, E`
unfoldable pub in_at : List ℕ → List Token → ℕ → Read Form
in_at source tokens at = do
  from ← in_source_at tokens at
  count ← expression source tokens (past_comma tokens from.1)
  Ok (form.In from.0 count.0, count.1)

-- `out dst, E`
unfoldable pub out_at : List ℕ → List Token → ℕ → Read Form
out_at source tokens at = do
  destination ← out_destination_at tokens at
  count ← expression source tokens (past_comma tokens destination.1)
  Ok (form.Out destination.0 count.0, count.1)

-- `push [iffull] [block or noblock]`
unfoldable pub push_at : List Token → ℕ → Form × ℕ
push_at tokens at =
    let if_full = if_full_at tokens at in
    let block = blocking_at tokens if_full.1 in
    (form.Push if_full.0 block.0, block.1)

-- `pull [ifempty] [block or noblock]`
unfoldable pub pull_at : List Token → ℕ → Form × ℕ
pull_at tokens at =
    let if_empty = if_empty_at tokens at in
    let block = blocking_at tokens if_empty.1 in
    (form.Pull if_empty.0 block.0, block.1)

-- `mov dst, [! or ~ or ::] src`
unfoldable pub mov_at : List Token → ℕ → Read Form
mov_at tokens at = do
  destination ← mov_destination_at tokens at
  let operation = operation_at tokens (past_comma tokens destination.1)
  from ← mov_source_at tokens operation.1
  Ok (form.Mov destination.0 operation.0 from.0, from.1)

-- `irq [set or nowait or wait or clear] E [rel]`
unfoldable pub irq_at : List ℕ → List Token → ℕ → Read Form
irq_at source tokens at = do
  let mode = irq_mode_at tokens at
  index ← expression source tokens mode.1
  let relative = relative_at tokens index.1
  Ok (form.Irq mode.0 index.0 relative.0, relative.1)

-- `set dst, E`
unfoldable pub set_at : List ℕ → List Token → ℕ → Read Form
set_at source tokens at = do
  destination ← set_destination_at tokens at
  value ← expression source tokens (past_comma tokens destination.1)
  Ok (form.Set destination.0 value.0, value.1)

-- a form by its first word
abbrev pub form_by : List ℕ → List Token → Keyword → ℕ → Read Form
form_by source tokens keyword.Nop at = Ok (form.Nop, at)
form_by source tokens keyword.Jmp at = jmp_at source tokens at
form_by source tokens keyword.Wait at = wait_at source tokens at
form_by source tokens keyword.In at = in_at source tokens at
form_by source tokens keyword.Out at = out_at source tokens at
form_by source tokens keyword.Push at = Ok (push_at tokens at)
form_by source tokens keyword.Pull at = Ok (pull_at tokens at)
form_by source tokens keyword.Mov at = mov_at tokens at
form_by source tokens keyword.Irq at = irq_at source tokens at
form_by source tokens keyword.Set at = set_at source tokens at
form_by source tokens _ at = Err Syntax

-- a form, if a word is there
abbrev pub form_after : List ℕ → List Token → Option (Keyword × ℕ) → Read Form
form_after source tokens (Some (word, after)) = form_by source tokens word after
form_after source tokens None = Err Syntax

-- an instruction without its side-set and its delay
unfoldable pub form_at : List ℕ → List Token → ℕ → Read Form
form_at source tokens at = form_after source tokens (keyword_at tokens at)
