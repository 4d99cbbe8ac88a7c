-- An instruction reads the same in two views that agree on the pins and the flags that it is said to read and to wait for.
use Rattle.std.proofs.Common.{◌≡◌, ◌∙◌, ℕ, ◌+◌, ◌/◌, ◌-◌, ◌%◌, ◌^◌, ◌<◌, ◌≤◌, Bool, true, false, cond, eqb, nat_lt, refl, sym, ap, inl, inr, arith}
use Rattle.std.proofs.lemmas.Bool.{cases_lt}
use Rattle.std.proofs.lemmas.Bool.Decides.{nat_tests}
use Rattle.std.proofs.lemmas.Nat.{mod_below, pow_pos, shr_split}
use Rattle.std.proofs.lemmas.Nat.Bits.{same_from_bits, same_from_bits_below, bit_at_above, bit_at_cat_low}
use Rattle.std.specs.Int.{bit_at}
use Rattle.pio_encode.specs.declared.act.Act.{Act}
use Rattle.pio_encode.specs.declared.act.Act.TheVariants.{Jmp, Wait, In, Out, Push, Pull, Mov, Irq, Set, Nothing}
use Rattle.pio_encode.specs.declared.act.Condition.{Condition}
use Rattle.pio_encode.specs.declared.act.Condition.TheVariants as condition
use Rattle.pio_encode.specs.declared.act.WaitSource.{WaitSource}
use Rattle.pio_encode.specs.declared.act.WaitSource.TheVariants as wait_source
use Rattle.pio_encode.specs.declared.act.InSource.{InSource}
use Rattle.pio_encode.specs.declared.act.InSource.TheVariants as in_source
use Rattle.pio_encode.specs.declared.act.MovSource.{MovSource}
use Rattle.pio_encode.specs.declared.act.MovSource.TheVariants as mov_source
use Rattle.pio_encode.specs.Ranges.{IsInRange}
use Rattle.irq_flags.specs.Flags.{flag_of}
use Rattle.pin_matrix.specs.Pins.{rotated_right, place_of}
use Rattle.pin_matrix.specs.declared.machine.MachineSetup.{MachineSetup}
use Rattle.pin_matrix.specs.declared.mapping.Mapping.{Mapping}
use Rattle.sm_registers.specs.declared.registers.Registers.{Registers}
use Rattle.sm_registers.specs.View.{View}
use Rattle.sm_registers.specs.Laws as law
use Rattle.sm_registers.specs.Laws.{read_of, bit_of}
use Rattle.block_shares.specs.Acts.{has, all_32, pins_in, reads_of, sees_of, jump_reads, wait_reads, in_reads, mov_reads, wait_sees, irq_sees}
use Rattle.block_isolation.specs.Isolation.{AgreeOn}
use Rattle.block_isolation.proofs.Bits.{bits_same, has_own, has_ones, flag_lt}
use Rattle.block_isolation.proofs.Premises.{PinLaws}

-- two views agree on these pins and flags
pub record SeesSame (pins flags : ℕ) (v w : View) : Type 0 where
  pub on_pins : AgreeOn 32 pins v.seen w.seen
  pub on_flags : AgreeOn 8 flags v.flags.up w.flags.up
  pub one : v.seen < 2 ^ 32
  pub other : w.seen < 2 ^ 32

pin_same : (pins flags p : ℕ) (v w : View) → SeesSame pins flags v w → p < 32 → has pins p ≡ true → bit_of v.seen p ≡ bit_of w.seen p
pin_same pins flags p v w h inside own = bits_same v.seen w.seen p (h.on_pins p inside own)

flag_same : (pins flags f : ℕ) (v w : View) → SeesSame pins flags v w → f < 8 → has flags f ≡ true → bit_of v.flags.up f ≡ bit_of w.flags.up f
flag_same pins flags f v w h inside own = bits_same v.flags.up w.flags.up f (h.on_flags f inside own)

jump_same : (c : Condition) (flags : ℕ) (s : MachineSetup) (v w : View) → SeesSame (jump_reads c s) flags v w → law.jmp_reads c s v ≡ law.jmp_reads c s w
jump_same condition.Always flags s v w h = refl
jump_same condition.XZero flags s v w h = refl
jump_same condition.XDecrement flags s v w h = refl
jump_same condition.YZero flags s v w h = refl
jump_same condition.YDecrement flags s v w h = refl
jump_same condition.XNotY flags s v w h = refl
jump_same condition.Pin flags s v w h = pin_same (2 ^ s.jmp_pin) flags s.jmp_pin v w h s.jmp_pin_is_a_pin (has_own s.jmp_pin)
jump_same condition.OsrNotEmpty flags s v w h = refl

wait_same : (source : WaitSource) (index : ℕ) (s : MachineSetup) (v w : View) → index < 32 → SeesSame (wait_reads source index s) (wait_sees source index s) v w → law.wait_reads source index s v ≡ law.wait_reads source index s w
wait_same wait_source.Gpio index s v w inside h = pin_same (2 ^ index) 0 index v w h inside (has_own index)
wait_same wait_source.Pin index s v w inside h =
    let p = (s.in_base + index) % 32 in pin_same (2 ^ p) 0 p v w h (mod_below (s.in_base + index) 32 (omega arith)) (has_own p)
wait_same wait_source.Irq index s v w inside h =
    let f = flag_of index s.id in flag_same 0 (2 ^ f) f v w h (flag_lt index s.id) (has_own f)

-- the low n bits keep theirs
bit_at-low : (word n i : ℕ) → i < n → bit_at (word % 2 ^ n) i ≡ bit_at word i
bit_at-low word n i inside = sym (bit_at_cat_low (word / 2 ^ n) n (word % 2 ^ n) i inside) ∙ ap (λ (m : ℕ). bit_at m i) (shr_split word n)

-- words with the same low n bits
low_same : (x y n : ℕ) → ((i : ℕ) → i < n → bit_at x i ≡ bit_at y i) → x % 2 ^ n ≡ y % 2 ^ n
low_same x y n h = same_from_bits (x % 2 ^ n) (y % 2 ^ n) (λ i. elim (cases_lt i n) [
  | inl low ↦ bit_at-low x n i low ∙ (h i low ∙ sym (bit_at-low y n i low))
  | inr high ↦ bit_at_above (x % 2 ^ n) n i (mod_below x (2 ^ n) (pow_pos n)) high ∙ sym (bit_at_above (y % 2 ^ n) n i (mod_below y (2 ^ n) (pow_pos n)) high)
])

-- the first n pins from a base on
from_base : MachineSetup → (n : ℕ) → n ≤ 32 → Mapping
from_base s n few = record { base = s.in_base; count = n; base_is_a_pin = s.in_base_is_a_pin; count_fits = few }

counted_place : (base i : ℕ) → base < 32 → i < 32 → ((base + i) % 32 + 32 - base) % 32 ≡ i
counted_place base i h k = omega arith

pin_counted : (laws : PinLaws) (s : MachineSetup) (n i : ℕ) → n ≤ 32 → i < n → has (pins_in s.in_base n) ((s.in_base + i) % 32) ≡ true
unfolding from_base
pin_counted laws s n i few inside =
    let p = (s.in_base + i) % 32 in
    let m = from_base s n few in
    let place : place_of m p ≡ i = counted_place s.in_base i s.in_base_is_a_pin (omega arith) in
    let within : nat_lt (place_of m p) n ≡ true = ap (λ (k : ℕ). nat_lt k n) place ∙ grind (arith, nat_tests) in
    ap (λ (b : ℕ). eqb b 1) (laws.mapped m 0 p (mod_below (s.in_base + i) 32 (omega arith)) ∙ ap (λ b. cond b 1 0) within)

ins_same : (laws : PinLaws) (n flags : ℕ) (s : MachineSetup) (v w : View) → n ≤ 32 → SeesSame (pins_in s.in_base n) flags v w → rotated_right v.seen s.in_base % 2 ^ n ≡ rotated_right w.seen s.in_base % 2 ^ n
ins_same laws n flags s v w few h =
    low_same (rotated_right v.seen s.in_base) (rotated_right w.seen s.in_base) n (λ i inside.
    let p = (s.in_base + i) % 32 in
    laws.counted v.seen s.in_base i h.one s.in_base_is_a_pin (omega arith)
    ∙ (pin_same (pins_in s.in_base n) flags p v w h (mod_below (s.in_base + i) 32 (omega arith)) (pin_counted laws s n i few inside)
    ∙ sym (laws.counted w.seen s.in_base i h.other s.in_base_is_a_pin (omega arith))))

under_begun : (b : Bool) (x y : ℕ) → x ≡ y → cond b 0 x ≡ cond b 0 y
under_begun b x y h = ap (cond b 0) h

in_same : (laws : PinLaws) (source : InSource) (n flags : ℕ) (s : MachineSetup) (v w : View) (r : Registers) → n ≤ 32 → SeesSame (in_reads source n s) flags v w → law.in_reads source n s v r ≡ law.in_reads source n s w r
in_same laws in_source.Pins n flags s v w r few h = under_begun r.begun _ _ (ins_same laws n flags s v w few h)
in_same laws in_source.X n flags s v w r few h = refl
in_same laws in_source.Y n flags s v w r few h = refl
in_same laws in_source.Null n flags s v w r few h = refl
in_same laws in_source.Isr n flags s v w r few h = refl
in_same laws in_source.Osr n flags s v w r few h = refl

-- where all pins are the same, so is what is seen of them
all_same : (flags : ℕ) (v w : View) → SeesSame all_32 flags v w → v.seen ≡ w.seen
all_same flags v w h = same_from_bits_below 32 v.seen w.seen h.one h.other (λ i inside. pin_same all_32 flags i v w h inside (has_ones 32 i inside))

mov_same : (source : MovSource) (flags : ℕ) (s : MachineSetup) (v w : View) → SeesSame (mov_reads source) flags v w → law.mov_reads source s v ≡ law.mov_reads source s w
mov_same mov_source.Pins flags s v w h = ap (λ (x : ℕ). rotated_right x s.in_base) (all_same flags v w h)
mov_same mov_source.X flags s v w h = refl
mov_same mov_source.Y flags s v w h = refl
mov_same mov_source.Null flags s v w h = refl
mov_same mov_source.Status flags s v w h = refl
mov_same mov_source.Isr flags s v w h = refl
mov_same mov_source.Osr flags s v w h = refl

irq_same : (clear waits begun : Bool) (index : ℕ) (s : MachineSetup) (v w : View) → SeesSame 0 (irq_sees clear waits index s) v w → law.irq_reads clear waits begun index s v ≡ law.irq_reads clear waits begun index s w
irq_same true waits begun index s v w h = refl
irq_same false false begun index s v w h = refl
irq_same false true false index s v w h = refl
irq_same false true true index s v w h = let f = flag_of index s.id in flag_same 0 (2 ^ f) f v w h (flag_lt index s.id) (has_own f)

pub reads_same : (laws : PinLaws) (act : Act) (s : MachineSetup) (r : Registers) (v w : View) → IsInRange act → SeesSame (reads_of act s) (sees_of act s) v w → read_of act s r v ≡ read_of act s r w
reads_same laws (Jmp c address) s r v w range h = jump_same c 0 s v w h
reads_same laws (Wait polarity source index) s r v w range h = wait_same source index s v w range h
reads_same laws (In source n) s r v w range h = in_same laws source n 0 s v w r range.1 h
reads_same laws (Out destination n) s r v w range h = refl
reads_same laws (Push if_full block) s r v w range h = refl
reads_same laws (Pull if_empty block) s r v w range h = refl
reads_same laws (Mov destination operation source) s r v w range h = mov_same source 0 s v w h
reads_same laws (Irq clear waits index) s r v w range h = irq_same clear waits r.begun index s v w h
reads_same laws (Set destination value) s r v w range h = refl
reads_same laws Nothing s r v w range h = refl
