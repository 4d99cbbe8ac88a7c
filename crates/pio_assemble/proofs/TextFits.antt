-- What a word is read as fits: its operands, its side-set value and its delay.
use Rattle.std.proofs.Common.{◌≡◌, ℕ, ◌/◌, ◌%◌, ◌^◌, ◌<◌, ◌≤◌, ◌==◌, nat_lt, Bool, true, false, Option, Some, None, refl, if◌then◌else◌, arith}
use Rattle.std.proofs.lemmas.Bool.{eqb-true, eqb-false, lt-ltb}
use Rattle.std.proofs.lemmas.Nat.{pow_pos}
use Rattle.std.proofs.Math.Nat.{mod-lt}
use Rattle.pio_encode.specs.declared.act.Act.{Act}
use Rattle.pio_encode.specs.declared.act.Act.TheVariants as act
use Rattle.pio_encode.specs.declared.act.InSource.TheVariants as in_source
use Rattle.pio_encode.specs.declared.act.MovDestination.{MovDestination}
use Rattle.pio_encode.specs.declared.act.MovOperation.{MovOperation}
use Rattle.pio_encode.specs.declared.act.MovSource.{MovSource}
use Rattle.pio_encode.specs.declared.act.SetDestination.TheVariants as set_destination
use Rattle.pio_encode.specs.declared.act.WaitSource.TheVariants as wait_source
use Rattle.pio_encode.specs.declared.rule.SideRule.{SideRule}
use Rattle.pio_encode.specs.Ranges.{IsInRange, delay_bits}
use Rattle.pio_encode.specs.Word.{bits, condition_at, count_at, out_destination_at, mov_destination_at, mov_operation_at, mov_source_at, mov_with, wait_at, in_at, push_or_pull_at, mov_at, irq_at, set_at, act_of, has_side, side_of, delay_of}
use Rattle.pio_assemble.specs.Operands.{side_kept, SideIsWithin}

-- of two instructions, the one that is chosen
either : (b : Bool) (x y : Act) → IsInRange x → IsInRange y → IsInRange (if b then x else y)
either true x y h k = h
either false x y h k = k

five_bits : (w : ℕ) → bits w 0 5 < 32
five_bits w = omega arith

count_fits : (n : ℕ) → n < 32 → (1 ≤ count_at n) × (count_at n ≤ 32)
count_fits n h = by (n == 0) refl where
  by : (b : Bool) → (n == 0) ≡ b → (1 ≤ (if b then 32 else n)) × ((if b then 32 else n) ≤ 32)
  by true e = (omega arith, omega arith)
  by false e = let some : n ≡ 0 → ⊥ = eqb-false n 0 e in (omega (arith, some), omega arith)

wait_fits : (w : ℕ) → IsInRange (wait_at w)
unfolding wait_at
wait_fits w =
    let h = five_bits w in
    either (bits w 5 2 == 0) (act.Wait (bits w 7 1 == 1) wait_source.Gpio (bits w 0 5)) _ h
    (either (bits w 5 2 == 1) (act.Wait (bits w 7 1 == 1) wait_source.Pin (bits w 0 5)) _ h
    (either (bits w 5 2 == 2) (act.Wait (bits w 7 1 == 1) wait_source.Irq (bits w 0 5)) act.Nothing h tt))

in_fits : (w : ℕ) → IsInRange (in_at w)
unfolding in_at
in_fits w =
    let n = count_at (bits w 0 5) in
    let h = count_fits (bits w 0 5) (five_bits w) in
    either (bits w 5 3 == 0) (act.In in_source.Pins n) _ h
    (either (bits w 5 3 == 1) (act.In in_source.X n) _ h
    (either (bits w 5 3 == 2) (act.In in_source.Y n) _ h
    (either (bits w 5 3 == 3) (act.In in_source.Null n) _ h
    (either (bits w 5 3 == 6) (act.In in_source.Isr n) _ h
    (either (bits w 5 3 == 7) (act.In in_source.Osr n) act.Nothing h tt)))))

push_or_pull_fits : (w : ℕ) → IsInRange (push_or_pull_at w)
unfolding push_or_pull_at
push_or_pull_fits w =
    either (bits w 0 5 == 0) _ act.Nothing (either (bits w 7 1 == 1) (act.Pull (bits w 6 1 == 1) (bits w 5 1 == 1)) (act.Push (bits w 6 1 == 1) (bits w 5 1 == 1)) tt tt) tt

mov_fits : (d : Option MovDestination) (o : Option MovOperation) (s : Option MovSource) → IsInRange (mov_with d o s)
mov_fits (Some d) (Some o) (Some s) = tt
mov_fits _ _ _ = tt

irq_fits : (w : ℕ) → IsInRange (irq_at w)
unfolding irq_at
irq_fits w = either (bits w 7 1 == 0) (act.Irq (bits w 6 1 == 1) (bits w 5 1 == 1) (bits w 0 5)) act.Nothing (five_bits w) tt

set_fits : (w : ℕ) → IsInRange (set_at w)
unfolding set_at
set_fits w =
    let n = bits w 0 5 in
    let h = five_bits w in
    either (bits w 5 3 == 0) (act.Set set_destination.Pins n) _ h
    (either (bits w 5 3 == 1) (act.Set set_destination.X n) _ h
    (either (bits w 5 3 == 2) (act.Set set_destination.Y n) _ h
    (either (bits w 5 3 == 4) (act.Set set_destination.Pindirs n) act.Nothing h tt)))

mov_at_fits : (w : ℕ) → IsInRange (mov_at w)
unfolding mov_at
mov_at_fits w = mov_fits (mov_destination_at (bits w 5 3)) (mov_operation_at (bits w 3 2)) (mov_source_at (bits w 0 3))

-- the operands
pub act_fits : (w : ℕ) → IsInRange (act_of w)
unfolding act_of
act_fits w =
    either (bits w 13 3 == 0) (act.Jmp (condition_at (bits w 5 3)) (bits w 0 5)) _ (five_bits w)
    (either (bits w 13 3 == 1) (wait_at w) _ (wait_fits w)
    (either (bits w 13 3 == 2) (in_at w) _ (in_fits w)
    (either (bits w 13 3 == 3) (act.Out (out_destination_at (bits w 5 3)) (count_at (bits w 0 5))) _ (count_fits (bits w 0 5) (five_bits w))
    (either (bits w 13 3 == 4) (push_or_pull_at w) _ (push_or_pull_fits w)
    (either (bits w 13 3 == 5) (mov_at w) _ (mov_at_fits w)
    (either (bits w 13 3 == 6) (irq_at w) (set_at w) (irq_fits w) (set_fits w)))))))

module _ (rule : SideRule) (field : ℕ) where
  -- the bits above the delay
  abbrev value : ℕ
  value = field / 2 ^ delay_bits rule % 2 ^ rule.bits

  -- the side-set value
  pub side_fits : SideIsWithin rule (side_of rule field)
  unfolding side_of
  side_fits = by (has_side rule field) where
    by : (b : Bool) → SideIsWithin rule (if b then Some value else None)
    by true = mod-lt (field / 2 ^ delay_bits rule) (pow_pos rule.bits)
    by false = pow_pos rule.bits

  -- it is the one that the rule has room for
  pub side_stays : side_kept rule (side_of rule field) ≡ side_of rule field
  unfolding side_of
  side_stays = by rule.opt (rule.bits == 0) refl refl where
    by : (opt none : Bool) → rule.opt ≡ opt → (rule.bits == 0) ≡ none → side_kept rule (side_of rule field) ≡ side_of rule field
    by true none o n = rw o refl
    by false true o n =
        let zero : rule.bits ≡ 0 = eqb-true rule.bits 0 n in
        rw (o, zero) refl
    by false false o n =
        let some : rule.bits ≡ 0 → ⊥ = eqb-false rule.bits 0 n in
        let test : nat_lt 0 rule.bits ≡ true = lt-ltb 0 rule.bits (omega (arith, some)) in
        rw (o, n, test) refl

  -- the delay
  pub delay_fits : delay_of rule field < 2 ^ delay_bits rule
  unfolding delay_of
  delay_fits = mod-lt field (pow_pos (delay_bits rule))
