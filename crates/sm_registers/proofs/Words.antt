-- That a tick keeps X, Y, the shift registers and the pending word in their ranges.
use Rattle.std.proofs.Common.{ℕ, zero, suc, ◌+◌, ◌-◌, ◌*◌, ◌/◌, ◌%◌, ◌^◌, ◌<◌, ◌≤◌, nat_lt, nat_le, Bool, true, false, cond, ◌&&◌, Option, Some, None, IfSome, rules, arith}
use Rattle.std.proofs.lemmas.Nat.{mod_below, pow_pos, mul-le}
use Rattle.std.proofs.Math.Nat.{mod-le, pow-suc, div-le_self}
use Rattle.pio_encode.specs.declared.act.Act.{Act}
use Rattle.pio_encode.specs.declared.act.Act.TheVariants.{Jmp, Wait, In, Out, Push, Pull, Mov, Irq, Set, Nothing}
use Rattle.pio_encode.specs.declared.act.Condition.{Condition}
use Rattle.pio_encode.specs.declared.act.Condition.TheVariants as condition
use Rattle.pio_encode.specs.declared.act.OutDestination.{OutDestination}
use Rattle.pio_encode.specs.declared.act.OutDestination.TheVariants as out_destination
use Rattle.pio_encode.specs.declared.act.MovDestination.{MovDestination}
use Rattle.pio_encode.specs.declared.act.MovDestination.TheVariants as mov_destination
use Rattle.pio_encode.specs.declared.act.MovOperation.{MovOperation}
use Rattle.pio_encode.specs.declared.act.MovOperation.TheVariants as mov_operation
use Rattle.pio_encode.specs.declared.act.MovSource.{MovSource}
use Rattle.pio_encode.specs.declared.act.MovSource.TheVariants as mov_source
use Rattle.pio_encode.specs.declared.act.SetDestination.{SetDestination}
use Rattle.pio_encode.specs.declared.act.SetDestination.TheVariants as set_destination
use Rattle.pio_encode.specs.Ranges.{IsInRange}
use Rattle.pio_encode.specs.Word.{act_of, reading_of}
use Rattle.shift_engine.specs.Shift.{shifted_in, shifted_out}
use Rattle.shift_engine.specs.Reverse.{reversed_low, reversed_bits}
use Rattle.pin_matrix.proofs.Bounds.{joined-lt}
use Rattle.pin_matrix.specs.Pins.{rotated_right}
use Rattle.pin_matrix.specs.declared.machine.MachineSetup.{MachineSetup}
use Rattle.sm_registers.specs.declared.registers.Registers.{Registers}
use Rattle.sm_registers.specs.View.{View}
use Rattle.sm_registers.specs.Queues.{Queues}
use Rattle.sm_registers.specs.Laws.{AreWords, AreWordsSeen}
use Rattle.sm_registers.specs.Effects.{Effect, counted_down, in_word, with_bits_in, autopushed, with_bits_out, out_to, pulled, mov_word, mov_to, operated, jmp_effect, wait_effect, in_effect, out_effect, push_effect, pull_effect, mov_effect, irq_effect, set_effect, effect_of}
use Rattle.sm_registers.specs.Tick.{current_word, after_effect, osr_filled_from, refilled, tick_delay, tick_by, tick_word, tick_of}
use Rattle.sm_registers.proofs.Placed.{ranged_word, placed_tick}

-- the registers of 32 bits, and the pending word of 16
record AreWhole (r : Registers) : Type 0 where
  x : r.x < 2 ^ 32
  y : r.y < 2 ^ 32
  isr : r.isr < 2 ^ 32
  osr : r.osr < 2 ^ 32
  pending : IfSome r.pending (λ w. w < 2 ^ 16)

-- an effect keeps them, and gives a word of 32 bits
record IsWholeEffect (e : Effect) : Type 0 where
  registers : AreWhole e.registers
  pending : IfSome e.pending (λ w. w < 2 ^ 16)
  word : IfSome e.word (λ w. w < 2 ^ 32)

whole_if : (b : Bool) (x y : Effect) → IsWholeEffect x → IsWholeEffect y → IsWholeEffect (cond b x y)
whole_if true x y h k = h
whole_if false x y h k = k

kept_if : (b : Bool) (x y : Registers) → AreWhole x → AreWhole y → AreWhole (cond b x y)
kept_if true x y h k = h
kept_if false x y h k = k

below_if : (b : Bool) (x y : ℕ) → x < 2 ^ 32 → y < 2 ^ 32 → cond b x y < 2 ^ 32
below_if true x y h k = h
below_if false x y h k = k

cut : (n : ℕ) → n % 2 ^ 32 < 2 ^ 32
cut n = mod_below n (2 ^ 32) (omega arith)

cut_16 : (n : ℕ) → n % 2 ^ 16 < 2 ^ 16
cut_16 n = mod_below n (2 ^ 16) (omega arith)

-- a shift into the ISR, and one out of the OSR
in_fits : (isr word n : ℕ) (right : Bool) → isr < 2 ^ 32 → n ≤ 32 → shifted_in isr word n right < 2 ^ 32
in_fits isr word n true h k = joined-lt isr (word % 2 ^ n) n h k (mod_below word (2 ^ n) (pow_pos n))
in_fits isr word n false h k = cut (isr * 2 ^ n + word % 2 ^ n)

less : (a b : ℕ) → a ≤ b → b < 2 ^ 32 → a < 2 ^ 32
less a b h k = omega arith

out_fits : (osr n : ℕ) (right : Bool) → osr < 2 ^ 32 → (shifted_out osr n right).0 < 2 ^ 32
out_fits osr n true h = less (osr % 2 ^ n) osr (mod-le osr (2 ^ n)) h
out_fits osr n false h = less (osr / 2 ^ (32 - n)) osr (div-le_self osr (2 ^ (32 - n))) h

left_fits : (osr n : ℕ) (right : Bool) → osr < 2 ^ 32 → (shifted_out osr n right).1 < 2 ^ 32
left_fits osr n true h = less (osr / 2 ^ n) osr (div-le_self osr (2 ^ n)) h
left_fits osr n false h = cut (osr * 2 ^ n)

turned_fits : (w n : ℕ) → w < 2 ^ 32 → n ≤ 32 → rotated_right w n < 2 ^ 32
turned_fits w n h k = joined-lt w (w % 2 ^ n) n h k (mod_below w (2 ^ n) (pow_pos n))

-- n bits in the opposite order are below 2 ^ n
reversed_low_fits : (n w : ℕ) → reversed_low n w < 2 ^ n
unfolding reversed_low
reversed_low_fits zero w = omega arith
reversed_low_fits (suc n) w =
    let rest = reversed_low_fits n (w / 2) in
    let lowest : w % 2 ≤ 1 = omega arith in
    let top : w % 2 * 2 ^ n ≤ 1 * 2 ^ n = mul-le (w % 2) (2 ^ n) 1 (2 ^ n) lowest (omega arith) in
    omega (arith, pow-suc 2 n)

reversed_fits : (w : ℕ) → reversed_bits w < 2 ^ 32
unfolding reversed_bits
reversed_fits w = reversed_low_fits 32 w

whole_counted_down : (c : Condition) (r : Registers) → AreWhole r → AreWhole (counted_down c r)
whole_counted_down condition.Always r h = h
whole_counted_down condition.XZero r h = h
whole_counted_down condition.XDecrement r h = search (rules, cut)
whole_counted_down condition.YZero r h = h
whole_counted_down condition.YDecrement r h = search (rules, cut)
whole_counted_down condition.XNotY r h = h
whole_counted_down condition.Pin r h = h
whole_counted_down condition.OsrNotEmpty r h = h

whole_bits_in : (word n : ℕ) (s : MachineSetup) (r : Registers) → n ≤ 32 → AreWhole r → AreWhole (with_bits_in word n s r)
whole_bits_in word n s r h k = record {
  x = k.x;
  y = k.y;
  isr = in_fits r.isr word n s.in_right k.isr h;
  osr = k.osr;
  pending = k.pending;
}

whole_bits_out : (n : ℕ) (s : MachineSetup) (r : Registers) → AreWhole r → AreWhole (with_bits_out n s r)
whole_bits_out n s r k = record {
  x = k.x;
  y = k.y;
  isr = k.isr;
  osr = left_fits r.osr n s.out_right k.osr;
  pending = k.pending;
}

whole_autopushed : (s : MachineSetup) (q : Queues) (r : Registers) → AreWhole r → IsWholeEffect (autopushed s q r)
whole_autopushed s q r h = search (rules, whole_if)

whole_out_to :
    (d : OutDestination) (value n : ℕ) (s : MachineSetup) (r : Registers) → value < 2 ^ 32 → AreWhole r → IsWholeEffect (out_to d value n s r)
whole_out_to out_destination.Pins value n s r k h = search rules
whole_out_to out_destination.X value n s r k h = search rules
whole_out_to out_destination.Y value n s r k h = search rules
whole_out_to out_destination.Null value n s r k h = search rules
whole_out_to out_destination.Pindirs value n s r k h = search rules
whole_out_to out_destination.Pc value n s r k h = search rules
whole_out_to out_destination.Isr value n s r k h = search rules
whole_out_to out_destination.Exec value n s r k h = search (rules, cut_16)

whole_pulled :
    (front : Option ℕ) (block : Bool) (r : Registers) → IfSome front (λ w. w < 2 ^ 32) → AreWhole r → IsWholeEffect (pulled front block r)
whole_pulled None block r k h = search (rules, whole_if)
whole_pulled (Some word) block r k h = search rules

mov_word_fits :
    (source : MovSource) (s : MachineSetup) (v : View) (q : Queues) (r : Registers) → v.seen < 2 ^ 32 → AreWhole r → mov_word source s v q r < 2 ^ 32
mov_word_fits mov_source.Pins s v q r h k = turned_fits v.seen s.in_base h (omega (arith, s.in_base_is_a_pin))
mov_word_fits mov_source.X s v q r h k = k.x
mov_word_fits mov_source.Y s v q r h k = k.y
mov_word_fits mov_source.Null s v q r h k = omega arith
mov_word_fits mov_source.Status s v q r h k = below_if _ (2 ^ 32 - 1) 0 (omega arith) (omega arith)
mov_word_fits mov_source.Isr s v q r h k = k.isr
mov_word_fits mov_source.Osr s v q r h k = k.osr

operated_fits : (o : MovOperation) (w : ℕ) → w < 2 ^ 32 → operated o w < 2 ^ 32
operated_fits mov_operation.Plain w h = h
operated_fits mov_operation.Invert w h = omega arith
operated_fits mov_operation.Reverse w h = reversed_fits w

whole_mov_to : (d : MovDestination) (value : ℕ) (s : MachineSetup) (r : Registers) → value < 2 ^ 32 → AreWhole r → IsWholeEffect (mov_to d value s r)
whole_mov_to mov_destination.Pins value s r k h = search rules
whole_mov_to mov_destination.X value s r k h = search rules
whole_mov_to mov_destination.Y value s r k h = search rules
whole_mov_to mov_destination.Exec value s r k h = search (rules, cut_16)
whole_mov_to mov_destination.Pc value s r k h = search rules
whole_mov_to mov_destination.Isr value s r k h = search rules
whole_mov_to mov_destination.Osr value s r k h = search rules

whole_set : (d : SetDestination) (value : ℕ) (s : MachineSetup) (r : Registers) → value < 2 ^ 32 → AreWhole r → IsWholeEffect (set_effect d value s r)
unfolding set_effect
whole_set set_destination.Pins value s r k h = search rules
whole_set set_destination.X value s r k h = search rules
whole_set set_destination.Y value s r k h = search rules
whole_set set_destination.Pindirs value s r k h = search rules

whole_jmp : (c : Condition) (a : ℕ) (s : MachineSetup) (v : View) (r : Registers) → AreWhole r → IsWholeEffect (jmp_effect c a s v r)
unfolding jmp_effect
whole_jmp c a s v r h = let kept : AreWhole (counted_down c r) = whole_counted_down c r h in search rules

whole_effect :
    (a : Act) (s : MachineSetup) (v : View) (q : Queues) (r : Registers) → IsInRange a → AreWordsSeen v q → AreWhole r
    → IsWholeEffect (effect_of a s v q r)
unfolding effect_of wait_effect in_effect out_effect push_effect pull_effect mov_effect irq_effect
whole_effect (Jmp c a) s v q r k g h = whole_jmp c a s v r h
whole_effect (Wait polarity source index) s v q r k g h = search (rules, whole_if)
whole_effect (In source n) s v q r k g h =
    whole_autopushed s q _ (kept_if r.begun r _ h (whole_bits_in (in_word source s v r) n s r k.1 h))
whole_effect (Out d n) s v q r k g h =
    let fits : (shifted_out r.osr n s.out_right).0 < 2 ^ 32 = out_fits r.osr n s.out_right h.osr in
    search (rules, whole_if, whole_out_to, whole_bits_out)
whole_effect (Push if_full block) s v q r k g h = search (rules, whole_if) depth 20
whole_effect (Pull if_empty block) s v q r k g h = let word = g.front in search (rules, whole_if, whole_pulled)
whole_effect (Mov d o source) s v q r k g h =
    whole_mov_to d _ s r (operated_fits o _ (mov_word_fits source s v q r g.seen h)) h
whole_effect (Irq clear waits index) s v q r k g h = search (rules, whole_if) depth 20
whole_effect (Set d value) s v q r k g h = whole_set d value s r (omega (arith, k)) h
whole_effect Nothing s v q r k g h = search rules

whole_after : (delay : ℕ) (s : MachineSetup) (r : Registers) (e : Effect) → IsWholeEffect e → AreWhole (after_effect delay s r e)
unfolding after_effect
whole_after delay s r e k =
    let kept : AreWhole e.registers = k.registers in
    kept_if e.stalled _ _
    (record { x = kept.x; y = kept.y; isr = kept.isr; osr = kept.osr; pending = kept.pending })
    (record { x = kept.x; y = kept.y; isr = kept.isr; osr = kept.osr; pending = k.pending })

whole_filled : (front : Option ℕ) (r : Registers) → IfSome front (λ w. w < 2 ^ 32) → AreWhole r → AreWhole (osr_filled_from front r)
whole_filled None r k h = h
whole_filled (Some word) r k h = search rules

whole_refilled : (s : MachineSetup) (q : Queues) (r : Registers) → IfSome q.front (λ w. w < 2 ^ 32) → AreWhole r → AreWhole (refilled s q r)
whole_refilled s q r k h = kept_if (s.autopull && nat_le s.pull_threshold r.out_count) _ _ (whole_filled q.front r k h) h

whole : (r : Registers) → AreWords r → AreWhole r
whole r h = record { x = h.x; y = h.y; isr = h.isr; osr = h.osr; pending = h.pending }

whole_tick :
    (s : MachineSetup) (v : View) (q : Queues) (r : Registers) → AreWordsSeen v q → AreWhole r → AreWhole (tick_of s v q r).0
unfolding tick_of tick_delay tick_word tick_by reading_of
whole_tick s v q r g h =
    let word : ℕ = current_word v r in
    let effect : IsWholeEffect (effect_of (act_of word) s v q r) = whole_effect (act_of word) s v q r (ranged_word word).range g h in
    elim (nat_lt 0 r.delay) as (λ b. AreWhole (cond b (tick_delay s q r) (tick_word (reading_of word s.side_rule) s v q r)).0) [
      | true ↦ whole_refilled s q (record r { delay = r.delay - 1 }) g.front
          (record { x = h.x; y = h.y; isr = h.isr; osr = h.osr; pending = h.pending })
      | false ↦ whole_refilled s q _ g.front (whole_after _ s r _ effect)
    ]

-- a tick keeps all registers in their ranges
pub words_kept :
    (s : MachineSetup) (v : View) (q : Queues) (r : Registers) → AreWordsSeen v q → AreWords r → AreWords (tick_of s v q r).0
words_kept s v q r g h =
    let kept : AreWhole (tick_of s v q r).0 = whole_tick s v q r g (whole r h) in
    record {
      placed = placed_tick s v q r h.placed;
      x = kept.x;
      y = kept.y;
      isr = kept.isr;
      osr = kept.osr;
      pending = kept.pending;
    }

-- a tick gives a word of 32 bits
pub word_fits :
    (s : MachineSetup) (v : View) (q : Queues) (r : Registers) → AreWords r → AreWordsSeen v q → IfSome (tick_of s v q r).1.word (λ w. w < 2 ^ 32)
unfolding tick_of tick_delay tick_word tick_by reading_of
word_fits s v q r h g =
    let word : ℕ = current_word v r in
    let effect : IsWholeEffect (effect_of (act_of word) s v q r) = whole_effect (act_of word) s v q r (ranged_word word).range g (whole r h) in
    elim (nat_lt 0 r.delay) as (λ b. IfSome (cond b (tick_delay s q r) (tick_word (reading_of word s.side_rule) s v q r)).1.word (λ w. w < 2 ^ 32)) [
      | true ↦ tt
      | false ↦ effect.word
    ]
