-- The operands of any word are in their ranges.
use Rattle.std.proofs.Common.{ℕ, ◌/◌, ◌%◌, ◌^◌, ◌<◌, ◌≤◌, Bool, true, false, cond, Option, Some, None, rules, arith}
use Rattle.std.proofs.lemmas.Nat.{mod_below}
use Rattle.pio_encode.specs.declared.act.Act.{Act}
use Rattle.pio_encode.specs.declared.act.MovDestination.{MovDestination}
use Rattle.pio_encode.specs.declared.act.MovOperation.{MovOperation}
use Rattle.pio_encode.specs.declared.act.MovSource.{MovSource}
use Rattle.pio_encode.specs.Ranges.{IsInRange}
use Rattle.pio_encode.specs.Word.{bits, count_at, act_of, wait_at, in_at, push_or_pull_at, mov_with, mov_at, irq_at, set_at}

-- an act whose operands are in their ranges
pub record IsRanged (act : Act) : Type 0 where
  pub range : IsInRange act

ranged_if : (b : Bool) (x y : Act) → IsRanged x → IsRanged y → IsRanged (cond b x y)
ranged_if true x y h k = h
ranged_if false x y h k = k

five_bits : (w : ℕ) → w / 2 ^ 0 % 2 ^ 5 < 32
five_bits w = mod_below (w / 2 ^ 0) (2 ^ 5) (omega arith)

some_count : (w : ℕ) → 1 ≤ count_at (bits w 0 5)
some_count w = let h = five_bits w in grind arith

count_fits : (w : ℕ) → count_at (bits w 0 5) ≤ 32
count_fits w = let h = five_bits w in grind arith

ranged_wait : (w : ℕ) → IsRanged (wait_at w)
unfolding wait_at
ranged_wait w = search (rules, ranged_if, five_bits) depth 20

ranged_in : (w : ℕ) → IsRanged (in_at w)
unfolding in_at
ranged_in w = search (rules, ranged_if, some_count, count_fits) depth 20

ranged_push_or_pull : (w : ℕ) → IsRanged (push_or_pull_at w)
unfolding push_or_pull_at
ranged_push_or_pull w = search (rules, ranged_if) depth 20

ranged_mov_with : (d : Option MovDestination) (o : Option MovOperation) (s : Option MovSource) → IsRanged (mov_with d o s)
ranged_mov_with (Some d) (Some o) (Some s) = record { range = tt }
ranged_mov_with (Some d) (Some o) None = record { range = tt }
ranged_mov_with (Some d) None s = record { range = tt }
ranged_mov_with None o s = record { range = tt }

ranged_irq : (w : ℕ) → IsRanged (irq_at w)
unfolding irq_at
ranged_irq w = search (rules, ranged_if, five_bits) depth 20

ranged_set : (w : ℕ) → IsRanged (set_at w)
unfolding set_at
ranged_set w = search (rules, ranged_if, five_bits) depth 20

pub ranged_word : (w : ℕ) → IsRanged (act_of w)
unfolding act_of mov_at
ranged_word w =
    search (rules, ranged_if, five_bits, some_count, count_fits, ranged_wait, ranged_in, ranged_push_or_pull, ranged_mov_with, ranged_irq, ranged_set) depth 20
