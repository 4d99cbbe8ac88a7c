-- That a tick keeps PC, the counts and the delay in their ranges.
use Rattle.std.proofs.Common.{ℕ, ◌+◌, ◌-◌, ◌/◌, ◌%◌, ◌^◌, ◌<◌, ◌≤◌, ◌==◌, nat_lt, nat_le, Bool, true, false, cond, ◌&&◌, Option, Some, None, IfSome, is_some, rules, arith}
use Rattle.std.proofs.lemmas.Nat.{mod_below, pow_pos}
use Rattle.std.proofs.Math.Pow.{pow_mono}
use Rattle.pio_encode.specs.declared.act.Act.{Act}
use Rattle.pio_encode.specs.declared.act.MovDestination.{MovDestination}
use Rattle.pio_encode.specs.declared.act.MovOperation.{MovOperation}
use Rattle.pio_encode.specs.declared.act.MovSource.{MovSource}
use Rattle.pio_encode.specs.declared.rule.SideRule.{SideRule}
use Rattle.pio_encode.specs.Ranges.{IsInRange, delay_bits}
use Rattle.pio_encode.specs.Word.{bits, count_at, act_of, wait_at, in_at, push_or_pull_at, mov_with, mov_at, irq_at, set_at, reading_of, delay_of}
use Rattle.pin_matrix.specs.declared.machine.MachineSetup.{MachineSetup}
use Rattle.sm_registers.specs.declared.registers.Registers.{Registers}
use Rattle.sm_registers.specs.View.{View}
use Rattle.sm_registers.specs.Queues.{Queues}
use Rattle.sm_registers.specs.Ranges.{IsPlaced}
use Rattle.sm_registers.specs.Effects.{Effect}
use Rattle.sm_registers.specs.Tick.{current_word, next_pc, pc_after, delay_after, after_effect, osr_filled_from, refilled, tick_delay, tick_by, tick_word, tick_of}
use Rattle.sm_registers.proofs.Effects.{Does, does}

-- an act whose operands are in their ranges
pub record IsRanged (act : Act) : Type 0 where
  pub range : IsInRange act

ranged_if : (b : Bool) (x y : Act) → IsRanged x → IsRanged y → IsRanged (cond b x y)
ranged_if true x y h k = h
ranged_if false x y h k = k

five_bits : (w : ℕ) → w / 2 ^ 0 % 2 ^ 5 < 32
five_bits w = mod_below (w / 2 ^ 0) (2 ^ 5) (omega arith)

some_count : (w : ℕ) → 1 ≤ count_at (bits w 0 5)
some_count w = let h = five_bits w in grind arith

count_fits : (w : ℕ) → count_at (bits w 0 5) ≤ 32
count_fits w = let h = five_bits w in grind arith

ranged_wait : (w : ℕ) → IsRanged (wait_at w)
unfolding wait_at
ranged_wait w = search (rules, ranged_if, five_bits) depth 20

ranged_in : (w : ℕ) → IsRanged (in_at w)
unfolding in_at
ranged_in w = search (rules, ranged_if, some_count, count_fits) depth 20

ranged_push_or_pull : (w : ℕ) → IsRanged (push_or_pull_at w)
unfolding push_or_pull_at
ranged_push_or_pull w = search (rules, ranged_if) depth 20

ranged_mov_with :
    (d : Option MovDestination) (o : Option MovOperation) (s : Option MovSource) → IsRanged (mov_with d o s)
ranged_mov_with (Some d) (Some o) (Some s) = record { range = tt }
ranged_mov_with (Some d) (Some o) None = record { range = tt }
ranged_mov_with (Some d) None s = record { range = tt }
ranged_mov_with None o s = record { range = tt }

ranged_irq : (w : ℕ) → IsRanged (irq_at w)
unfolding irq_at
ranged_irq w = search (rules, ranged_if, five_bits) depth 20

ranged_set : (w : ℕ) → IsRanged (set_at w)
unfolding set_at
ranged_set w = search (rules, ranged_if, five_bits) depth 20

-- the operands of any word are in their ranges
pub ranged_word : (w : ℕ) → IsRanged (act_of w)
unfolding act_of mov_at
ranged_word w =
    search (rules, ranged_if, five_bits, some_count, count_fits, ranged_wait, ranged_in, ranged_push_or_pull, ranged_mov_with, ranged_irq, ranged_set) depth 20

-- a delay has at most five bits
pub delay_fits : (rule : SideRule) (field : ℕ) → delay_of rule field < 32
unfolding delay_of
delay_fits rule field =
    let n = delay_bits rule in
    let below : field % 2 ^ n < 2 ^ n = mod_below field (2 ^ n) (pow_pos n) in
    let most : n ≤ 5 = omega arith in
    let power : 2 ^ n ≤ 2 ^ 5 = pow_mono most in
    omega (arith, below, power)

kept_if : (b : Bool) (x y : Registers) → IsPlaced x → IsPlaced y → IsPlaced (cond b x y)
kept_if true x y h k = h
kept_if false x y h k = k

next_is_placed : (s : MachineSetup) (r : Registers) → next_pc s r < 32
next_is_placed s r =
    elim (r.pc == s.wrap_top) as (λ b. cond b s.wrap_bottom ((r.pc + 1) % 32) < 32) [
      | true ↦ s.wrap_bottom_in_memory
      | false ↦ mod_below (r.pc + 1) 32 (omega arith)
    ]

pc_is_placed :
    (jump : Option ℕ) (was_pending : Bool) (s : MachineSetup) (r : Registers) → IfSome jump (λ a. a < 32) → r.pc < 32
    → pc_after jump was_pending s r < 32
pc_is_placed (Some a) was_pending s r k h = k
pc_is_placed None true s r k h = h
pc_is_placed None false s r k h = next_is_placed s r

delay_is_placed : (pending : Option ℕ) (delay : ℕ) → delay < 32 → delay_after pending delay < 32
delay_is_placed (Some word) delay h = omega arith
delay_is_placed None delay h = h

-- an effect keeps PC, the counts and the delay in their ranges, and so does what comes after it
placed_after :
    (delay : ℕ) (a : Act) (s : MachineSetup) (v : View) (q : Queues) (r : Registers) (e : Effect) → delay < 32 → IsInRange a → IsPlaced r
    → Does a s v q r e → IsPlaced (after_effect delay s r e)
unfolding after_effect
placed_after delay a s v q r e d range h k =
    let in_count = k.in_fits range h.in_count in
    let out_count = k.out_fits h.out_count in
    kept_if e.stalled _ _
    (record { pc = omega (arith, k.pc, h.pc); in_count = in_count; out_count = out_count; delay = omega (arith, k.delay, h.delay) })
    (record {
      pc = pc_is_placed e.jump (is_some r.pending) s r (k.target range) h.pc;
      in_count = in_count;
      out_count = out_count;
      delay = delay_is_placed e.pending delay d;
    })

placed_filled : (front : Option ℕ) (r : Registers) → IsPlaced r → IsPlaced (osr_filled_from front r)
placed_filled None r h = h
placed_filled (Some word) r h = search rules

placed_refilled : (s : MachineSetup) (q : Queues) (r : Registers) → IsPlaced r → IsPlaced (refilled s q r)
placed_refilled s q r h = kept_if (s.autopull && nat_le s.pull_threshold r.out_count) _ _ (placed_filled q.front r h) h

-- a tick keeps them
pub placed_tick : (s : MachineSetup) (v : View) (q : Queues) (r : Registers) → IsPlaced r → IsPlaced (tick_of s v q r).0
unfolding tick_of tick_delay tick_word tick_by reading_of
placed_tick s v q r h =
    let word : ℕ = current_word v r in
    let does = does (act_of word) s v q r in
    elim (nat_lt 0 r.delay) as (λ b. IsPlaced (cond b (tick_delay s q r) (tick_word (reading_of word s.side_rule) s v q r)).0) [
      | true ↦ placed_refilled s q (record r { delay = r.delay - 1 })
          (record { pc = h.pc; in_count = h.in_count; out_count = h.out_count; delay = omega (arith, h.delay) })
      | false ↦ placed_refilled s q _ (placed_after _ (act_of word) s v q r _ (delay_fits s.side_rule (bits word 8 5)) (ranged_word word).range h does)
    ]
