-- The word of an instruction whose `side` is right: its side-set value is the one that it says.
use Rattle.std.proofs.Common.{◌≡◌, ℕ, ℤ, pos, negsuc, ◌-◌, ◌*◌, ◌^◌, ◌≤◌, ◌==◌, ◌&&◌, Bool, true, false, List, Option, Some, None, Ok, Err, IfOk, refl, ap, subst, ◌∙◌, zero-mul, arith, nat_le, if◌then◌else◌}
use Rattle.std.proofs.lemmas.Bool.{and_parts, eqb-true, leb-true}
use Rattle.pio_encode.specs.declared.act.Act.{Act}
use Rattle.pio_encode.specs.declared.rule.SideRule.{SideRule}
use Rattle.pio_encode.specs.Ranges.{delay_bits}
use Rattle.pio_encode.specs.Word.{word_of, side_and_delay, enable_bit}
use Rattle.pio_expr.specs.Values.{Scope, value_of}
use Rattle.pio_expr.specs.declared.expr.Item.{Item}
use Rattle.pio_statement.specs.declared.instruction.Instruction.{Instruction}
use Rattle.pio_statement.specs.declared.instruction.Suffix.{Suffix}
use Rattle.pio_statement.specs.declared.instruction.Suffix.TheVariants as suffix
use Rattle.pio_statement.specs.declared.statement.Code.{Code}
use Rattle.pio_statement.specs.declared.statement.Code.TheVariants as code
use Rattle.pio_assemble.specs.declared.before.Before.{Before}
use Rattle.pio_assemble.specs.declared.fault.SourceKind.TheVariants.{Range}
use Rattle.pio_assemble.specs.declared.instruction.Extras.{Extras}
use Rattle.pio_assemble.specs.declared.quantity.Quantity.{Quantity}
use Rattle.pio_assemble.specs.declared.quantity.Quantity.TheVariants as quantity
use Rattle.answers.specs.Answers.{◌>>=◌}
use Rattle.pio_assemble.specs.Checks.{code_fault, side_fault, room_fault, has_side}
use Rattle.pio_assemble.specs.Operands.{valued, in_range, number_in, side_in, delay_in, suffix_of, act_of, side_kept, op_of, word_of_instruction, word_of_code}
use Rattle.pio_assemble.specs.Manual.{manual_op_of, manual_word_of_instruction, manual_word_of_code}
use Rattle.pio_assemble.proofs.Faultless.{no_second, kept_after, same_after, any}

-- what a `.side_set` says is in the rule; without one the rule is that of none
abbrev pub IsRule : Option Bool → SideRule → Type 0
IsRule None rule = (rule.opt ≡ false) × (rule.bits ≡ 0)
IsRule (Some opt) rule = rule.opt ≡ opt

-- a number in a range is at most the highest
at_most : (what : Quantity) (low high : ℕ) (n : ℤ) → IfOk (in_range what low high n) (λ k. k ≤ high)
at_most what low high (negsuc n) = tt
at_most what low high (pos n) = by (nat_le low n && nat_le n high) refl where
  by : (b : Bool) → (nat_le low n && nat_le n high) ≡ b → IfOk (if b then Ok n else Err (Range what (pos n))) (λ k. k ≤ high)
  by false e = tt
  by true e = leb-true n high (and_parts (nat_le low n) (nat_le n high) e).1

-- and so is a value in it
number_most : (scope : Scope) (what : Quantity) (low high : ℕ) (items : List Item) → IfOk (number_in scope what low high items) (λ k. k ≤ high)
number_most scope what low high items = kept_after (λ n. Unit {0}) (λ k. k ≤ high) (valued (value_of scope None items)) (in_range what low high) (any (valued (value_of scope None items))) (λ n h. at_most what low high n)

-- bits 12 to 8 are those of the side-set value as it is said
abbrev IsSaid : SideRule → Option ℕ → Type 0
IsSaid rule side = (delay : ℕ) → side_and_delay rule (side_kept rule side) delay ≡ side_and_delay rule side delay

-- a value that is kept as it is
kept_said : (rule : SideRule) (side : Option ℕ) → side_kept rule side ≡ side → IsSaid rule side
kept_said rule side h delay = ap (λ (s : Option ℕ). side_and_delay rule s delay) h

-- none, where none is asked for
none_said : (set : Option Bool) (rule : SideRule) → IsRule set rule → side_fault set false ≡ None → IsSaid rule None
none_said None rule k h = kept_said rule None (rw (k.0, k.1) refl)
none_said (Some true) rule k h = kept_said rule None (rw k refl)
none_said (Some false) rule k h = cc

-- a value in range; of no bits it is 0
value_said : (rule : SideRule) (value : ℕ) → value ≤ 2 ^ rule.bits - 1 → IsSaid rule (Some value)
unfolding side_and_delay
value_said rule value h delay = by rule.opt (rule.bits == 0) refl refl where
  by : (opt none : Bool) → rule.opt ≡ opt → (rule.bits == 0) ≡ none → side_and_delay rule (side_kept rule (Some value)) delay ≡ side_and_delay rule (Some value) delay
  by true none e f = kept_said rule (Some value) (rw e refl) delay
  by false false e f = kept_said rule (Some value) (rw (e, f) refl) delay
  by false true e f =
      let kept : side_kept rule (Some value) ≡ None = rw (e, f) refl in
      let bits = eqb-true rule.bits 0 f in
      let most : value ≤ 2 ^ 0 - 1 = subst (λ n. value ≤ 2 ^ n - 1) bits h in
      let zero : value ≡ 0 = omega (arith, most) in
      let disabled : enable_bit rule ≡ 0 = rw e refl in
      let nothing : value * 2 ^ delay_bits rule ≡ 0 = ap (λ v. v * 2 ^ delay_bits rule) zero ∙ zero-mul (2 ^ delay_bits rule) in
      ap (λ (s : Option ℕ). side_and_delay rule s delay) kept ∙ omega (arith, disabled, nothing)

-- the suffix of an instruction
extras_said : (scope : Scope) (rule : SideRule) (set : Option Bool) (s : Suffix) → IsRule set rule → side_fault set (has_side s) ≡ None → IfOk (suffix_of scope rule s) (λ e. IsSaid rule e.side)
unfolding suffix_of
extras_said scope rule set suffix.None k h = none_said set rule k h
extras_said scope rule set (suffix.Side side) k h =
    kept_after (λ v. v ≤ 2 ^ rule.bits - 1) (λ e. IsSaid rule e.side) (side_in scope rule side) (λ v. Ok (record { side = Some v; delay = 0 })) (number_most scope quantity.Side 0 (2 ^ rule.bits - 1) side) (λ v most. value_said rule v most)
extras_said scope rule set (suffix.Delay delay) k h =
    kept_after (λ t. Unit {0}) (λ e. IsSaid rule e.side) (delay_in scope rule delay) (λ t. Ok (record { side = None; delay = t })) (any (delay_in scope rule delay)) (λ t u. none_said set rule k h)
extras_said scope rule set (suffix.SideDelay side delay) k h =
    kept_after (λ v. v ≤ 2 ^ rule.bits - 1) (λ e. IsSaid rule e.side) (side_in scope rule side) (λ v. delay_in scope rule delay >>= λ t. Ok (record { side = Some v; delay = t })) (number_most scope quantity.Side 0 (2 ^ rule.bits - 1) side)
    (λ v most. kept_after (λ t. Unit {0}) (λ e. IsSaid rule e.side) (delay_in scope rule delay) (λ t. Ok (record { side = Some v; delay = t })) (any (delay_in scope rule delay)) (λ t u. value_said rule v most))
extras_said scope rule set (suffix.DelaySide delay side) k h =
    kept_after (λ t. Unit {0}) (λ e. IsSaid rule e.side) (delay_in scope rule delay) (λ t. side_in scope rule side >>= λ v. Ok (record { side = Some v; delay = t })) (any (delay_in scope rule delay))
    (λ t u. kept_after (λ v. v ≤ 2 ^ rule.bits - 1) (λ e. IsSaid rule e.side) (side_in scope rule side) (λ v. Ok (record { side = Some v; delay = t })) (number_most scope quantity.Side 0 (2 ^ rule.bits - 1) side) (λ v most. value_said rule v most))

-- the word of an act and its extras
op_said : (rule : SideRule) (act : Act) (e : Extras) → IsSaid rule e.side → word_of (op_of rule act e) rule ≡ word_of (manual_op_of act e) rule
unfolding word_of
op_said rule act e h = rw (h e.delay) refl

-- the word of an instruction
instruction_said : (scope : Scope) (rule : SideRule) (set : Option Bool) (i : Instruction) → IsRule set rule → side_fault set (has_side i.suffix) ≡ None → word_of_instruction scope rule i ≡ manual_word_of_instruction scope rule i
unfolding word_of_instruction manual_word_of_instruction
instruction_said scope rule set i k h =
    same_after (λ a. Unit {0}) (act_of scope i.form) (λ a. suffix_of scope rule i.suffix >>= λ e. Ok (word_of (op_of rule a e) rule)) (λ a. suffix_of scope rule i.suffix >>= λ e. Ok (word_of (manual_op_of a e) rule)) (any (act_of scope i.form))
    (λ a u. same_after (λ e. IsSaid rule e.side) (suffix_of scope rule i.suffix) (λ e. Ok (word_of (op_of rule a e) rule)) (λ e. Ok (word_of (manual_op_of a e) rule)) (extras_said scope rule set i.suffix k h) (λ e said. ap (λ (w : ℕ). Ok w) (op_said rule a e said)))

-- the word of code without a fault
pub word_same : (scope : Scope) (rule : SideRule) (b : Before) (c : Code) → IsRule b.side_set rule → code_fault b c ≡ None → word_of_code scope rule c ≡ manual_word_of_code scope rule c
word_same scope rule b (code.Word value) k h = refl
word_same scope rule b (code.Instruction i) k h = instruction_said scope rule b.side_set i k (no_second (room_fault b) (side_fault b.side_set (has_side i.suffix)) h)
