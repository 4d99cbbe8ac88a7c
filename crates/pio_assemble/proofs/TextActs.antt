-- The text of an instruction is read as that instruction.
use Rattle.std.proofs.Common.{◌≡◌, ℕ, ◌/◌, ◌%◌, ◌^◌, ◌<◌, ◌≤◌, ◌==◌, Bool, true, false, List, [], ◌∷◌, ◌++◌, Ok, refl, subst, arith}
use Rattle.std.proofs.lemmas.Bool.{eqb-true, eqb-false}
use Rattle.pio_lex.specs.declared.keyword.Keyword.TheVariants as keyword
use Rattle.pio_lex.specs.declared.piece.Piece.{Piece}
use Rattle.pio_lex.specs.declared.piece.Piece.TheVariants as piece
use Rattle.pio_encode.specs.declared.act.Act.{Act}
use Rattle.pio_encode.specs.declared.act.Act.TheVariants as act
use Rattle.pio_encode.specs.declared.act.WaitSource.{WaitSource}
use Rattle.pio_encode.specs.declared.act.WaitSource.TheVariants as wait_source
use Rattle.pio_encode.specs.declared.act.MovDestination.{MovDestination}
use Rattle.pio_encode.specs.declared.act.MovDestination.TheVariants as mov_destination
use Rattle.pio_encode.specs.declared.act.MovOperation.{MovOperation}
use Rattle.pio_encode.specs.declared.act.MovOperation.TheVariants as mov_operation
use Rattle.pio_encode.specs.declared.act.MovSource.{MovSource}
use Rattle.pio_encode.specs.declared.act.MovSource.TheVariants as mov_source
use Rattle.pio_encode.specs.Ranges.{IsInRange}
use Rattle.pio_encode.specs.Spelling.{has_text, is_flag}
use Rattle.pio_encode.specs.Text.{act_text, is_nop}
use Rattle.pio_encode.specs.Word.{bit}
use Rattle.pio_expr.specs.Values.{Scope}
use Rattle.pio_statement.specs.declared.instruction.Form.{Form}
use Rattle.pio_statement.specs.declared.instruction.Form.TheVariants as form
use Rattle.pio_statement.specs.declared.instruction.IrqMode.{IrqMode}
use Rattle.pio_statement.specs.declared.instruction.IrqMode.TheVariants as irq_mode
use Rattle.pio_assemble.specs.declared.quantity.Quantity.TheVariants as quantity
use Rattle.pio_assemble.specs.Operands.{act_of, with_rel, irq_of}
use Rattle.pio_assemble.proofs.TextNumbers.{number}
use Rattle.pio_assemble.proofs.TextTails.{lone, value_in}
use Rattle.pio_assemble.proofs.TextSays.{Says, word, jmp_pieces, jmp_says, flag_pieces, wait_pieces, wait_gpio_says, wait_pin_says, wait_irq_says, in_pieces, in_says, out_pieces, out_says, set_pieces, set_says, push_pieces, push_says, pull_pieces, pull_says, nop_says, mov_pieces, mov_says, irq_pieces, irq_says}
use Rattle.pio_assemble.proofs.TextWords.{Rows, jmp_row, wait_gpio_row, wait_pin_row, wait_irq_row, in_row, out_row, set_row, push_row, pull_row, nop_row, mov_row, irq_row, clears, waits}

-- an instruction's text has these pieces, which say a form, and the form is the instruction
pub record IsActRead (a : Act) : Type 0 where
  pub pieces : List Piece
  pub form : Form
  pub row : Rows a pieces
  pub says : Says pieces form
  pub means : (scope : Scope) → act_of scope form ≡ Ok a

-- the index of a flag from its number and its `rel`
flag_is : (i : ℕ) → i < 32 → is_flag i ≡ true → with_rel (i / 2 ^ 4 == 1) (i % 2 ^ 3) ≡ i
flag_is i h e = by (i / 2 ^ 4 == 1) refl where
  clear : i / 2 ^ 3 % 2 ≡ 0
  clear = eqb-true (i / 2 ^ 3 % 2) 0 e

  by : (b : Bool) → (i / 2 ^ 4 == 1) ≡ b → with_rel b (i % 2 ^ 3) ≡ i
  by true k =
      let set : i / 2 ^ 4 ≡ 1 = eqb-true (i / 2 ^ 4) 1 k in
      omega (arith, clear)
  by false k =
      let unset : i / 2 ^ 4 ≡ 1 → ⊥ = eqb-false (i / 2 ^ 4) 1 k in
      omega (arith, clear, unset)

level_is : (polarity : Bool) → (bit polarity == 1) ≡ polarity
level_is true = refl
level_is false = refl

bit_within : (polarity : Bool) → bit polarity ≤ 1
bit_within true = omega arith
bit_within false = omega arith

wait_read : (polarity : Bool) (from : WaitSource) (i : ℕ) → i < 32 → has_text (act.Wait polarity from i) ≡ true → IsActRead (act.Wait polarity from i)
unfolding act_of
wait_read polarity wait_source.Gpio i h e = record {
  pieces = wait_pieces polarity wait_source.Gpio ++ piece.Gap 1 ∷ number i ∷ [];
  form = form.Wait (lone (bit polarity)) wait_source.Gpio (lone i) false;
  row = wait_gpio_row polarity i (omega arith);
  says = wait_gpio_says polarity i;
  means = λ scope. rw (value_in scope quantity.Polarity 0 1 (bit polarity) (omega arith) (bit_within polarity), value_in scope quantity.Index 0 31 i (omega arith) (omega arith), level_is polarity) refl;
}
wait_read polarity wait_source.Pin i h e = record {
  pieces = wait_pieces polarity wait_source.Pin ++ piece.Gap 1 ∷ number i ∷ [];
  form = form.Wait (lone (bit polarity)) wait_source.Pin (lone i) false;
  row = wait_pin_row polarity i (omega arith);
  says = wait_pin_says polarity i;
  means = λ scope. rw (value_in scope quantity.Polarity 0 1 (bit polarity) (omega arith) (bit_within polarity), value_in scope quantity.Index 0 31 i (omega arith) (omega arith), level_is polarity) refl;
}
wait_read polarity wait_source.Irq i h e = record {
  pieces = wait_pieces polarity wait_source.Irq ++ flag_pieces (i / 2 ^ 4 == 1) (i % 2 ^ 3);
  form = form.Wait (lone (bit polarity)) wait_source.Irq (lone (i % 2 ^ 3)) (i / 2 ^ 4 == 1);
  row = wait_irq_row polarity i;
  says = wait_irq_says polarity (i / 2 ^ 4 == 1) (i % 2 ^ 3);
  means = λ scope. rw (value_in scope quantity.Polarity 0 1 (bit polarity) (omega arith) (bit_within polarity), value_in scope quantity.Index 0 7 (i % 2 ^ 3) (omega arith) (omega arith), level_is polarity, flag_is i h e) refl;
}

irq_read : (mode : IrqMode) (i : ℕ) → i < 32 → is_flag i ≡ true → IsActRead (act.Irq (clears mode) (waits mode) i)
unfolding act_of
irq_read mode i h e = record {
  pieces = irq_pieces mode (i / 2 ^ 4 == 1) (i % 2 ^ 3);
  form = form.Irq mode (lone (i % 2 ^ 3)) (i / 2 ^ 4 == 1);
  row = irq_row mode i;
  says = irq_says mode (i / 2 ^ 4 == 1) (i % 2 ^ 3);
  means = λ scope. rw (value_in scope quantity.Index 0 7 (i % 2 ^ 3) (omega arith) (omega arith), flag_is i h e, mode_is mode) refl;
} where
  mode_is : (m : IrqMode) → irq_of m i ≡ act.Irq (clears m) (waits m) i
  mode_is irq_mode.Raise = refl
  mode_is irq_mode.RaiseAndWait = refl
  mode_is irq_mode.Lower = refl

-- a MOV of Y to itself, which is spelled `nop`
nop_read : IsActRead (act.Mov mov_destination.Y mov_operation.Plain mov_source.Y)
unfolding act_of act_text
nop_read = record { pieces = word keyword.Nop 3 ∷ []; form = form.Nop; row = nop_row; says = nop_says; means = λ scope. refl }

only_nop : (d : MovDestination) (o : MovOperation) (s : MovSource) → is_nop d o s ≡ true → act.Mov mov_destination.Y mov_operation.Plain mov_source.Y ≡ act.Mov d o s
only_nop mov_destination.Y mov_operation.Plain mov_source.Y h = refl
only_nop _ _ _ h = absurd cc

mov_read : (d : MovDestination) (o : MovOperation) (s : MovSource) → IsActRead (act.Mov d o s)
unfolding act_of act_text
mov_read d o s = by (is_nop d o s) refl where
  by : (b : Bool) → is_nop d o s ≡ b → IsActRead (act.Mov d o s)
  by true e = subst IsActRead (only_nop d o s e) nop_read
  by false e = record { pieces = mov_pieces d o s; form = form.Mov d o s; row = λ f rest r. rw e (mov_row d o s f rest r); says = mov_says d o s; means = λ scope. refl }

-- each instruction that can be written
pub act_read : (a : Act) → IsInRange a → has_text a ≡ true → IsActRead a
unfolding act_of
act_read (act.Jmp c n) h e = record {
  pieces = jmp_pieces c n;
  form = form.Jmp c (lone n);
  row = jmp_row c n (omega arith);
  says = jmp_says c n;
  means = λ scope. rw (value_in scope quantity.Jmp 0 31 n (omega arith) (omega arith)) refl;
}
act_read (act.Wait polarity from i) h e = wait_read polarity from i h e
act_read (act.In operand n) h e = record {
  pieces = in_pieces operand n;
  form = form.In operand (lone n);
  row = in_row operand n (omega arith);
  says = in_says operand n;
  means = λ scope. rw (value_in scope quantity.Count 1 32 n h.0 h.1) refl;
}
act_read (act.Out operand n) h e = record {
  pieces = out_pieces operand n;
  form = form.Out operand (lone n);
  row = out_row operand n (omega arith);
  says = out_says operand n;
  means = λ scope. rw (value_in scope quantity.Count 1 32 n h.0 h.1) refl;
}
act_read (act.Push if_full block) h e = record { pieces = push_pieces if_full block; form = form.Push if_full block; row = push_row if_full block; says = push_says if_full block; means = λ scope. refl }
act_read (act.Pull if_empty block) h e = record { pieces = pull_pieces if_empty block; form = form.Pull if_empty block; row = pull_row if_empty block; says = pull_says if_empty block; means = λ scope. refl }
act_read (act.Mov d o s) h e = mov_read d o s
act_read (act.Irq true true i) h e = absurd cc
act_read (act.Irq true false i) h e = irq_read irq_mode.Lower i h e
act_read (act.Irq false true i) h e = irq_read irq_mode.RaiseAndWait i h e
act_read (act.Irq false false i) h e = irq_read irq_mode.Raise i h e
act_read (act.Set operand n) h e = record {
  pieces = set_pieces operand n;
  form = form.Set operand (lone n);
  row = set_row operand n (omega arith);
  says = set_says operand n;
  means = λ scope. rw (value_in scope quantity.Data 0 31 n (omega arith) (omega arith)) refl;
}
act_read act.Nothing h e = absurd cc
