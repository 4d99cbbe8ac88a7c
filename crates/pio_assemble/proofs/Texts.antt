-- The text of a word is read as that word.
use Rattle.std.proofs.Common.{◌≡◌, ℕ, ◌^◌, ◌<◌, ◌==◌, ◌&&◌, Bool, true, false, List, ◌++◌, Option, refl, sym, ap, subst, ◌∙◌, append_assoc, if◌then◌else◌, arith}
use Rattle.std.proofs.lemmas.Bool.{and_parts, eqb-true}
use Rattle.pio_encode.specs.declared.op.Op.{Op}
use Rattle.pio_encode.specs.declared.rule.SideRule.{SideRule}
use Rattle.pio_encode.specs.Ranges.{IsInRange, delay_bits}
use Rattle.pio_encode.specs.Spelling.{has_text, word_text, spelled}
use Rattle.pio_encode.specs.Text.{act_text, side_text, delay_text, op_text}
use Rattle.pio_encode.specs.Word.{bits, reading_of, word_of}
use Rattle.pio_statement.specs.declared.statement.Code.TheVariants as code
use Rattle.pio_assemble.specs.declared.quantity.Quantity.TheVariants as quantity
use Rattle.pio_assemble.specs.Operands.{SideIsWithin, side_kept, op_of, word_of_instruction}
use Rattle.pio_assemble.specs.Texts.{IsReadAs}
use Rattle.pio_assemble.proofs.TextRows.{tokens_from, reads_row}
use Rattle.pio_assemble.proofs.TextNumbers.{after}
use Rattle.pio_assemble.proofs.TextTails.{lone, value_in, follow_of, tail_pieces, tail_suffix, tail_of}
use Rattle.pio_assemble.proofs.TextSays.{says_with, number_pieces, number_says}
use Rattle.pio_assemble.proofs.TextActs.{act_read}
use Rattle.pio_assemble.proofs.TextFits.{act_fits, side_fits, side_stays, delay_fits}
use Rattle.pio_assemble.proofs.TextHex.{number_row}

-- an instruction's text
op_is_read : (op : Op) (rule : SideRule) (w : ℕ) → IsInRange op.act → has_text op.act ≡ true → SideIsWithin rule op.side → side_kept rule op.side ≡ op.side → op.delay < 2 ^ delay_bits rule → word_of op rule ≡ w
    → IsReadAs w rule (op_text op)
unfolding op_text word_of_instruction
op_is_read op rule w range writable side stays delay same =
    let a = act_read op.act range writable in
    let t = tail_of rule op.side op.delay side delay in
    let text : List ℕ = act_text op.act ++ after (follow_of t.tail) in
    let spelt : op_text op ≡ text = append_assoc (act_text op.act) (side_text op.side) (delay_text op.delay) ∙ ap (λ (bs : List ℕ). act_text op.act ++ bs) t.text in
    let kept : op_of rule op.act (record { side = op.side; delay = op.delay }) ≡ op = ap (λ (s : Option ℕ). record op { side = s }) stays in
    let read : IsReadAs w rule text = record {
      tokens = tokens_from text 0 (a.pieces ++ tail_pieces t.tail);
      code = code.Instruction (record { form = a.form; suffix = tail_suffix t.tail });
      are_its_tokens = reads_row text (a.pieces ++ tail_pieces t.tail) (a.row (follow_of t.tail) (tail_pieces t.tail) t.row);
      is_its_line = says_with a.pieces a.form a.says t.tail text;
      is_its_word = λ scope. rw (a.means scope, t.means scope, kept, same) refl;
    } in
    subst (λ (bs : List ℕ). IsReadAs w rule bs) (sym spelt) read

-- a number's text
number_is_read : (w : ℕ) (rule : SideRule) → w < 2 ^ 16 → IsReadAs w rule (word_text w)
number_is_read w rule h = record {
  tokens = tokens_from (word_text w) 0 (number_pieces w);
  code = code.Word (lone w);
  are_its_tokens = reads_row (word_text w) (number_pieces w) (number_row w h);
  is_its_line = number_says w (word_text w);
  is_its_word = λ scope. value_in scope quantity.Word 0 65535 w (omega arith) (omega arith);
}

-- the text of a word
pub is_read : (w : ℕ) (rule : SideRule) → w < 2 ^ 16 → IsReadAs w rule (spelled w rule)
unfolding spelled reading_of
is_read w rule h = by (has_text (reading_of w rule).act && word_of (reading_of w rule) rule == w) refl where
  by : (b : Bool) → (has_text (reading_of w rule).act && word_of (reading_of w rule) rule == w) ≡ b → IsReadAs w rule (if b then op_text (reading_of w rule) else word_text w)
  by false e = number_is_read w rule h
  by true e =
      let both = and_parts (has_text (reading_of w rule).act) (word_of (reading_of w rule) rule == w) e in
      op_is_read (reading_of w rule) rule w (act_fits w) both.0 (side_fits rule (bits w 8 5)) (side_stays rule (bits w 8 5)) (delay_fits rule (bits w 8 5)) (eqb-true (word_of (reading_of w rule) rule) w both.1)
