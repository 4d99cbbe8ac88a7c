-- No reader tells of an unknown directive, which is told of the whole line.
use Rattle.std.proofs.Common.{ℕ, ◌+◌, List, Bool, true, false, Option, Some, None, Result, Ok, Err, slice_get, if◌then◌else◌}
use Rattle.pio_lex.specs.declared.keyword.Keyword.{Keyword}
use Rattle.pio_lex.specs.declared.keyword.Keyword.TheVariants as keyword
use Rattle.pio_lex.specs.declared.directive.Directive.{Directive}
use Rattle.pio_lex.specs.declared.directive.Directive.TheVariants as directive
use Rattle.pio_lex.specs.declared.token.TokenKind.{TokenKind}
use Rattle.pio_lex.specs.declared.token.TokenKind.TheVariants as kind
use Rattle.pio_lex.specs.declared.token.Token.{Token}
use Rattle.pio_expr.specs.declared.expr.Item.{Item}
use Rattle.pio_expr.specs.declared.fault.ExprKind.TheVariants as expr_kind
use Rattle.pio_expr.specs.declared.fault.ExprKind.{ExprKind}
use Rattle.pio_expr.specs.declared.fault.ExprRefusal.{ExprRefusal}
use Rattle.pio_expr.specs.Grammar.{expression_at}
use Rattle.pio_statement.specs.declared.fault.StatementKind.{StatementKind}
use Rattle.pio_statement.specs.declared.fault.StatementKind.TheVariants as fault
use Rattle.answers.specs.Answers.{◌>>=◌}
use Rattle.pio_statement.specs.Tokens.{kind_at, ends_at, keyword_at, past_open, past_side, past_colon, past_close, past_colon_by, past_close_by, name_of, name_by, name_at, kind_of, of_line, expression}
use Rattle.pio_statement.specs.Operands.{operand_by, placed, wait_source_at, wait_source_of, in_source_at, in_source_of, out_destination_at, out_destination_of, mov_destination_at, mov_destination_of, mov_source_at, mov_source_of, set_destination_at, set_destination_of}
use Rattle.pio_statement.specs.Conditions.{inverted_of, inverted_at, differs_of, differs_at, after_x_by, after_x, after_y_by, after_y, after_word, condition_by, condition_at}
use Rattle.pio_statement.specs.Forms.{jmp_at, wait_at, in_at, out_at, mov_at, irq_at, set_at, form_by, form_after, form_at}
use Rattle.pio_statement.specs.Instructions.{delay_at, with_delay, with_side, side_first, delay_first, suffix_by, suffix_at, instruction_at, word_at, code_directive, instruction_code, code_by, code_at}
use Rattle.pio_statement.specs.Statements.{program_at, define_at, origin_at, side_set_at, pio_version_at, lone_word_at, directive_at, some_code, labelled_at, label_at, lone_code_at, worded_at, statement_by, statement_from}

-- what is read is no unknown directive
abbrev pub Known : {X : Type 0} → Result X StatementKind → Type 0
Known (Ok x) = Unit {0}
Known (Err fault.Directive) = ⊥
Known (Err fault.Syntax) = Unit {0}
Known (Err fault.TooDeep) = Unit {0}
Known (Err fault.Ambiguous) = Unit {0}

-- one reader after another
pub onward : {X Y : Type 0} (read : Result X StatementKind) (next : X → Result Y StatementKind) → Known read → ((x : X) → Known (next x)) → Known (read >>= next)
onward (Ok x) next known all = all x
onward (Err fault.Directive) next known all = absurd known
onward (Err fault.Syntax) next known all = tt
onward (Err fault.TooDeep) next known all = tt
onward (Err fault.Ambiguous) next known all = tt

placed_known : {X : Type 0} (word : Option X) (at : ℕ) → Known (placed word at)
placed_known (Some word) at = tt
placed_known None at = tt

operand_known : {X : Type 0} (table : Keyword → Option X) (word : Option (Keyword × ℕ)) → Known (operand_by table word)
operand_known table (Some (word, after)) = placed_known (table word) after
operand_known table None = tt

kind_known : (X : Type 0) (kind : ExprKind) → Known {X = X} (Err (kind_of kind))
kind_known X expr_kind.Syntax = tt
kind_known X expr_kind.TooDeep = tt
kind_known X expr_kind.Ambiguous = tt

of_line_known : {X : Type 0} (read : Result X ExprRefusal) → Known (of_line read)
of_line_known (Ok x) = tt
of_line_known {X} (Err refusal) = kind_known X refusal.kind

expression_known : (source : List ℕ) (tokens : List Token) (at : ℕ) → Known (expression source tokens at)
unfolding expression
expression_known source tokens at = of_line_known (expression_at source tokens at)

past_colon_by_known : (k : Option TokenKind) (at : ℕ) → Known (past_colon_by k at)
past_colon_by_known (Some kind.Colon) at = tt
past_colon_by_known _ at = tt

past_colon_known : (tokens : List Token) (at : ℕ) → Known (past_colon tokens at)
unfolding past_colon
past_colon_known tokens at = past_colon_by_known (kind_at tokens at) at

past_close_by_known : (k : Option TokenKind) (at : ℕ) → Known (past_close_by k at)
past_close_by_known (Some kind.CloseBracket) at = tt
past_close_by_known _ at = tt

past_close_known : (tokens : List Token) (at : ℕ) → Known (past_close tokens at)
unfolding past_close
past_close_known tokens at = past_close_by_known (kind_at tokens at) at

name_of_known : (source : List ℕ) (k : TokenKind) (first size at : ℕ) → Known (name_of source k first size at)
name_of_known source kind.Name first size at = tt
name_of_known source _ first size at = tt

name_by_known : (source : List ℕ) (t : Option Token) (at : ℕ) → Known (name_by source t at)
name_by_known source (Some t) at = name_of_known source t.kind t.first t.length at
name_by_known source None at = tt

name_known : (source : List ℕ) (tokens : List Token) (at : ℕ) → Known (name_at source tokens at)
unfolding name_at
name_known source tokens at = name_by_known source (slice_get tokens at) at

wait_source_known : (tokens : List Token) (at : ℕ) → Known (wait_source_at tokens at)
unfolding wait_source_at
wait_source_known tokens at = operand_known wait_source_of (keyword_at tokens at)

in_source_known : (tokens : List Token) (at : ℕ) → Known (in_source_at tokens at)
unfolding in_source_at
in_source_known tokens at = operand_known in_source_of (keyword_at tokens at)

out_destination_known : (tokens : List Token) (at : ℕ) → Known (out_destination_at tokens at)
unfolding out_destination_at
out_destination_known tokens at = operand_known out_destination_of (keyword_at tokens at)

mov_destination_known : (tokens : List Token) (at : ℕ) → Known (mov_destination_at tokens at)
unfolding mov_destination_at
mov_destination_known tokens at = operand_known mov_destination_of (keyword_at tokens at)

mov_source_known : (tokens : List Token) (at : ℕ) → Known (mov_source_at tokens at)
unfolding mov_source_at
mov_source_known tokens at = operand_known mov_source_of (keyword_at tokens at)

set_destination_known : (tokens : List Token) (at : ℕ) → Known (set_destination_at tokens at)
unfolding set_destination_at
set_destination_known tokens at = operand_known set_destination_of (keyword_at tokens at)

inverted_known : (tokens : List Token) (at : ℕ) → Known (inverted_at tokens at)
unfolding inverted_at
inverted_known tokens at = operand_known inverted_of (keyword_at tokens at)

differs_known : (tokens : List Token) (at : ℕ) → Known (differs_at tokens at)
unfolding differs_at
differs_known tokens at = operand_known differs_of (keyword_at tokens at)

after_x_by_known : (tokens : List Token) (k : Option TokenKind) (at : ℕ) → Known (after_x_by tokens k at)
after_x_by_known tokens (Some kind.MinusMinus) at = tt
after_x_by_known tokens (Some kind.NotEqual) at = differs_known tokens (at + 1)
after_x_by_known tokens _ at = tt

after_x_known : (tokens : List Token) (at : ℕ) → Known (after_x tokens at)
unfolding after_x
after_x_known tokens at = after_x_by_known tokens (kind_at tokens at) at

after_y_by_known : (k : Option TokenKind) (at : ℕ) → Known (after_y_by k at)
after_y_by_known (Some kind.MinusMinus) at = tt
after_y_by_known _ at = tt

after_y_known : (tokens : List Token) (at : ℕ) → Known (after_y tokens at)
unfolding after_y
after_y_known tokens at = after_y_by_known (kind_at tokens at) at

after_word_known : (tokens : List Token) (word : Keyword) (at : ℕ) → Known (after_word tokens word at)
after_word_known tokens keyword.X at = after_x_known tokens at
after_word_known tokens keyword.Y at = after_y_known tokens at
after_word_known tokens keyword.Pin at = tt
after_word_known tokens _ at = tt

condition_by_known : (tokens : List Token) (k : Option TokenKind) (at : ℕ) → Known (condition_by tokens k at)
condition_by_known tokens (Some kind.Bang) at = inverted_known tokens (at + 1)
condition_by_known tokens (Some kind.Tilde) at = inverted_known tokens (at + 1)
condition_by_known tokens (Some (kind.Keyword word)) at = after_word_known tokens word (at + 1)
condition_by_known tokens _ at = tt

condition_known : (tokens : List Token) (at : ℕ) → Known (condition_at tokens at)
unfolding condition_at
condition_known tokens at = condition_by_known tokens (kind_at tokens at) at

jmp_known : (source : List ℕ) (tokens : List Token) (at : ℕ) → Known (jmp_at source tokens at)
unfolding jmp_at
jmp_known source tokens at =
    onward _ _ (condition_known tokens at) λ condition.
    onward _ _ (expression_known source tokens _) λ target.
    tt

wait_known : (source : List ℕ) (tokens : List Token) (at : ℕ) → Known (wait_at source tokens at)
unfolding wait_at
wait_known source tokens at =
    onward _ _ (expression_known source tokens at) λ polarity.
    onward _ _ (wait_source_known tokens _) λ looked_at.
    onward _ _ (expression_known source tokens _) λ index.
    tt

in_bits_known : (source : List ℕ) (tokens : List Token) (at : ℕ) → Known (in_at source tokens at)
unfolding in_at
in_bits_known source tokens at =
    onward _ _ (in_source_known tokens at) λ from.
    onward _ _ (expression_known source tokens _) λ count.
    tt

out_known : (source : List ℕ) (tokens : List Token) (at : ℕ) → Known (out_at source tokens at)
unfolding out_at
out_known source tokens at =
    onward _ _ (out_destination_known tokens at) λ destination.
    onward _ _ (expression_known source tokens _) λ count.
    tt

mov_known : (tokens : List Token) (at : ℕ) → Known (mov_at tokens at)
unfolding mov_at
mov_known tokens at =
    onward _ _ (mov_destination_known tokens at) λ destination.
    onward _ _ (mov_source_known tokens _) λ from.
    tt

irq_known : (source : List ℕ) (tokens : List Token) (at : ℕ) → Known (irq_at source tokens at)
unfolding irq_at
irq_known source tokens at =
    onward _ _ (expression_known source tokens _) λ index.
    tt

set_known : (source : List ℕ) (tokens : List Token) (at : ℕ) → Known (set_at source tokens at)
unfolding set_at
set_known source tokens at =
    onward _ _ (set_destination_known tokens at) λ destination.
    onward _ _ (expression_known source tokens _) λ value.
    tt

form_by_known : (source : List ℕ) (tokens : List Token) (word : Keyword) (at : ℕ) → Known (form_by source tokens word at)
form_by_known source tokens keyword.Nop at = tt
form_by_known source tokens keyword.Jmp at = jmp_known source tokens at
form_by_known source tokens keyword.Wait at = wait_known source tokens at
form_by_known source tokens keyword.In at = in_bits_known source tokens at
form_by_known source tokens keyword.Out at = out_known source tokens at
form_by_known source tokens keyword.Push at = tt
form_by_known source tokens keyword.Pull at = tt
form_by_known source tokens keyword.Mov at = mov_known tokens at
form_by_known source tokens keyword.Irq at = irq_known source tokens at
form_by_known source tokens keyword.Set at = set_known source tokens at
form_by_known source tokens _ at = tt

form_after_known : (source : List ℕ) (tokens : List Token) (word : Option (Keyword × ℕ)) → Known (form_after source tokens word)
form_after_known source tokens (Some (word, after)) = form_by_known source tokens word after
form_after_known source tokens None = tt

form_known : (source : List ℕ) (tokens : List Token) (at : ℕ) → Known (form_at source tokens at)
unfolding form_at
form_known source tokens at = form_after_known source tokens (keyword_at tokens at)

delay_known : (source : List ℕ) (tokens : List Token) (at : ℕ) → Known (delay_at source tokens at)
unfolding delay_at
delay_known source tokens at =
    onward _ _ (expression_known source tokens at) λ delay.
    onward _ _ (past_close_known tokens _) λ after.
    tt

with_delay_known : (source : List ℕ) (tokens : List Token) (side : List Item) (bracket : Option ℕ) (at : ℕ) → Known (with_delay source tokens side bracket at)
with_delay_known source tokens side (Some after) at = onward _ _ (delay_known source tokens after) λ delay. tt
with_delay_known source tokens side None at = tt

with_side_known : (source : List ℕ) (tokens : List Token) (delay : List Item) (word : Option ℕ) (at : ℕ) → Known (with_side source tokens delay word at)
with_side_known source tokens delay (Some after) at = onward _ _ (expression_known source tokens after) λ side. tt
with_side_known source tokens delay None at = tt

side_first_known : (source : List ℕ) (tokens : List Token) (at : ℕ) → Known (side_first source tokens at)
unfolding side_first
side_first_known source tokens at =
    onward _ _ (expression_known source tokens at) λ side.
    with_delay_known source tokens side.0 (past_open tokens side.1) side.1

delay_first_known : (source : List ℕ) (tokens : List Token) (at : ℕ) → Known (delay_first source tokens at)
unfolding delay_first
delay_first_known source tokens at =
    onward _ _ (delay_known source tokens at) λ delay.
    with_side_known source tokens delay.0 (past_side tokens delay.1) delay.1

suffix_by_known : (source : List ℕ) (tokens : List Token) (word bracket : Option ℕ) (at : ℕ) → Known (suffix_by source tokens word bracket at)
suffix_by_known source tokens (Some after) bracket at = side_first_known source tokens after
suffix_by_known source tokens None (Some after) at = delay_first_known source tokens after
suffix_by_known source tokens None None at = tt

suffix_known : (source : List ℕ) (tokens : List Token) (at : ℕ) → Known (suffix_at source tokens at)
unfolding suffix_at
suffix_known source tokens at = suffix_by_known source tokens (past_side tokens at) (past_open tokens at) at

instruction_known : (source : List ℕ) (tokens : List Token) (at : ℕ) → Known (instruction_at source tokens at)
unfolding instruction_at
instruction_known source tokens at =
    onward _ _ (form_known source tokens at) λ form.
    onward _ _ (suffix_known source tokens _) λ suffix.
    tt

word_known : (source : List ℕ) (tokens : List Token) (at : ℕ) → Known (word_at source tokens at)
unfolding word_at
word_known source tokens at =
    onward _ _ (expression_known source tokens at) λ value.
    tt

code_directive_known : (source : List ℕ) (tokens : List Token) (d : Directive) (at : ℕ) → Known (code_directive source tokens d at)
code_directive_known source tokens directive.Word at = word_known source tokens at
code_directive_known source tokens _ at = tt

instruction_code_known : (source : List ℕ) (tokens : List Token) (at : ℕ) → Known (instruction_code source tokens at)
instruction_code_known source tokens at =
    onward _ _ (instruction_known source tokens at) λ instruction.
    tt

code_by_known : (source : List ℕ) (tokens : List Token) (k : Option TokenKind) (at : ℕ) → Known (code_by source tokens k at)
code_by_known source tokens (Some (kind.Directive d)) at = code_directive_known source tokens d (at + 1)
code_by_known source tokens _ at = instruction_code_known source tokens at

code_known : (source : List ℕ) (tokens : List Token) (at : ℕ) → Known (code_at source tokens at)
unfolding code_at
code_known source tokens at = code_by_known source tokens (kind_at tokens at) at

program_known : (source : List ℕ) (tokens : List Token) (at : ℕ) → Known (program_at source tokens at)
unfolding program_at
program_known source tokens at =
    onward _ _ (name_known source tokens at) λ name.
    tt

define_known : (source : List ℕ) (tokens : List Token) (at : ℕ) → Known (define_at source tokens at)
unfolding define_at
define_known source tokens at =
    onward _ _ (name_known source tokens _) λ name.
    onward _ _ (expression_known source tokens _) λ value.
    tt

origin_known : (source : List ℕ) (tokens : List Token) (at : ℕ) → Known (origin_at source tokens at)
unfolding origin_at
origin_known source tokens at =
    onward _ _ (expression_known source tokens at) λ address.
    tt

side_set_known : (source : List ℕ) (tokens : List Token) (at : ℕ) → Known (side_set_at source tokens at)
unfolding side_set_at
side_set_known source tokens at =
    onward _ _ (expression_known source tokens at) λ bits.
    tt

pio_version_known : (source : List ℕ) (tokens : List Token) (at : ℕ) → Known (pio_version_at source tokens at)
unfolding pio_version_at
pio_version_known source tokens at =
    onward _ _ (expression_known source tokens at) λ version.
    tt

lone_word_known : (source : List ℕ) (tokens : List Token) (at : ℕ) → Known (lone_word_at source tokens at)
unfolding lone_word_at
lone_word_known source tokens at =
    onward _ _ (word_known source tokens at) λ word.
    tt

directive_known : (source : List ℕ) (tokens : List Token) (d : Directive) (at : ℕ) → Known (directive_at source tokens d at)
directive_known source tokens directive.Program at = program_known source tokens at
directive_known source tokens directive.Define at = define_known source tokens at
directive_known source tokens directive.Origin at = origin_known source tokens at
directive_known source tokens directive.SideSet at = side_set_known source tokens at
directive_known source tokens directive.WrapTarget at = tt
directive_known source tokens directive.Wrap at = tt
directive_known source tokens directive.Word at = lone_word_known source tokens at
directive_known source tokens directive.LangOpt at = tt
directive_known source tokens directive.PioVersion at = pio_version_known source tokens at
directive_known source tokens directive.Other at = tt

some_code_known : (source : List ℕ) (tokens : List Token) (at : ℕ) → Known (some_code source tokens at)
some_code_known source tokens at =
    onward _ _ (code_known source tokens at) λ code.
    tt

unless_ended : (source : List ℕ) (tokens : List Token) (at : ℕ) (ends : Bool) → Known (if ends then Ok (None, at) else some_code source tokens at)
unless_ended source tokens at true = tt
unless_ended source tokens at false = some_code_known source tokens at

labelled_known : (source : List ℕ) (tokens : List Token) (at : ℕ) → Known (labelled_at source tokens at)
unfolding labelled_at
labelled_known source tokens at = unless_ended source tokens at (ends_at tokens at)

label_known : (source : List ℕ) (tokens : List Token) (public : Bool) (at : ℕ) → Known (label_at source tokens public at)
unfolding label_at
label_known source tokens public at =
    onward _ _ (name_known source tokens at) λ name.
    onward _ _ (past_colon_known tokens _) λ after.
    onward _ _ (labelled_known source tokens _) λ code.
    tt

lone_code_known : (source : List ℕ) (tokens : List Token) (at : ℕ) → Known (lone_code_at source tokens at)
unfolding lone_code_at
lone_code_known source tokens at =
    onward _ _ (code_known source tokens at) λ code.
    tt

worded_known : (source : List ℕ) (tokens : List Token) (word : Keyword) (at : ℕ) → Known (worded_at source tokens word at)
worded_known source tokens keyword.Public at = label_known source tokens true (at + 1)
worded_known source tokens _ at = lone_code_known source tokens at

statement_by_known : (source : List ℕ) (tokens : List Token) (k : Option TokenKind) (at : ℕ) → Known (statement_by source tokens k at)
statement_by_known source tokens None at = tt
statement_by_known source tokens (Some kind.Newline) at = tt
statement_by_known source tokens (Some (kind.Directive d)) at = directive_known source tokens d (at + 1)
statement_by_known source tokens (Some (kind.Keyword word)) at = worded_known source tokens word at
statement_by_known source tokens (Some kind.Name) at = label_known source tokens false at
statement_by_known source tokens _ at = tt

pub statement_known : (source : List ℕ) (tokens : List Token) (at : ℕ) → Known (statement_from source tokens at)
unfolding statement_from
statement_known source tokens at = statement_by_known source tokens (kind_at tokens at) at
