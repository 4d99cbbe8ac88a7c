-- Which pins a tick writes: those of its machine's mappings.
use Rattle.std.proofs.Common.{◌≡◌, ℕ, ◌<◌, nat_lt, Bool, true, false, cond, not, ◌||◌, Option, Some, None, refl}
use Rattle.std.proofs.lemmas.Nat.Bits.{bit_at-zero}
use Rattle.std.specs.Int.{bit_at}
use Rattle.std.specs.List.{AllByRecursion}
use Rattle.pio_encode.specs.declared.op.Op.{Op}
use Rattle.pio_encode.specs.Word.{reading_of}
use Rattle.pin_matrix.proofs.Mapped.{IsWrite-writes_of}
use Rattle.pin_matrix.proofs.Merging.{IsWrite-none}
use Rattle.pin_matrix.specs.Pins.{IsWrite, IsFree, writes_of}
use Rattle.pin_matrix.specs.declared.machine.MachineSetup.{MachineSetup}
use Rattle.sm_registers.specs.declared.registers.Registers.{Registers}
use Rattle.sm_registers.specs.View.{View}
use Rattle.sm_registers.specs.Queues.{Queues}
use Rattle.sm_registers.specs.Laws.{WritesPins}
use Rattle.sm_registers.specs.Rules.{current_act, holds}
use Rattle.sm_registers.specs.Tick.{current_word, side_writes, tick_delay, tick_by, tick_word, tick_of}
use Rattle.sm_registers.proofs.Effects.{does, free_pin}

-- side-set's writes
write_if : (b : Bool) (x y : ℕ × ℕ) → IsWrite x → IsWrite y → IsWrite (cond b x y)
write_if true x y h k = h
write_if false x y h k = k

side_is_write : (side : Option ℕ) (begun : Bool) (s : MachineSetup) → IsWrite (side_writes side begun s)
side_is_write None begun s = IsWrite-none
side_is_write (Some value) begun s = write_if begun (0, 0) _ IsWrite-none (IsWrite-writes_of s.side value)

free_if : (b : Bool) (w : ℕ × ℕ) (p : ℕ) → bit_at w.0 p ≡ 0 → bit_at (cond b (0, 0) w).0 p ≡ 0
free_if true w p h = bit_at-zero p
free_if false w p h = h

side_is_free : (side : Option ℕ) (begun : Bool) (s : MachineSetup) (p : ℕ) → p < 32 → holds s.side p ≡ false → bit_at (side_writes side begun s).0 p ≡ 0
side_is_free None begun s p inside h = bit_at-zero p
side_is_free (Some value) begun s p inside h = free_if begun (writes_of s.side value) p (free_pin s.side value p inside h)

level_is_free : (b side : Bool) (w : ℕ × ℕ) (p : ℕ) → (b || not side) ≡ true → (side ≡ false → bit_at w.0 p ≡ 0) → bit_at (cond b (0, 0) w).0 p ≡ 0
level_is_free true side w p h k = bit_at-zero p
level_is_free false true w p h k = cc
level_is_free false false w p h k = k refl

direction_is_free : (b side : Bool) (w : ℕ × ℕ) (p : ℕ) → (not b || not side) ≡ true → (side ≡ false → bit_at w.0 p ≡ 0) → bit_at (cond b w (0, 0)).0 p ≡ 0
direction_is_free false side w p h k = bit_at-zero p
direction_is_free true true w p h k = cc
direction_is_free true false w p h k = k refl

-- all that a tick writes are writes of pins
pub tick_writes : (s : MachineSetup) (v : View) (q : Queues) (r : Registers) → WritesPins (tick_of s v q r).1
unfolding tick_of tick_delay tick_word tick_by reading_of
tick_writes s v q r =
    let op : Op = reading_of (current_word v r) s.side_rule in
    let effect = does (current_act v r) s v q r in
    let side_set : IsWrite (side_writes op.side r.begun s) = side_is_write op.side r.begun s in
    elim (nat_lt 0 r.delay) as (λ b. WritesPins (cond b (tick_delay s q r) (tick_word op s v q r)).1) [
      | true ↦ record { level = (IsWrite-none, (IsWrite-none, tt)); direction = (IsWrite-none, (IsWrite-none, tt)) }
      | false ↦ record {
        level = (effect.level.write, (write_if s.side_rule.pindirs (0, 0) _ IsWrite-none side_set, tt));
        direction = (effect.direction.write, (write_if s.side_rule.pindirs _ (0, 0) side_set IsWrite-none, tt));
      }
    ]

-- and they are the machine's own
pub own_levels :
    (s : MachineSetup) (v : View) (q : Queues) (r : Registers) (p : ℕ) → p < 32 → holds s.out p ≡ false → holds s.set p ≡ false
    → (s.side_rule.pindirs || not (holds s.side p)) ≡ true → AllByRecursion (IsFree p) (tick_of s v q r).1.level
unfolding tick_of tick_delay tick_word tick_by reading_of
own_levels s v q r p inside out set side =
    let op : Op = reading_of (current_word v r) s.side_rule in
    let effect = does (current_act v r) s v q r in
    elim (nat_lt 0 r.delay) as (λ b. AllByRecursion (IsFree p) (cond b (tick_delay s q r) (tick_word op s v q r)).1.level) [
      | true ↦ (bit_at-zero p, (bit_at-zero p, tt))
      | false ↦ (
        effect.level.own p inside out set,
        (level_is_free s.side_rule.pindirs (holds s.side p) _ p side (side_is_free op.side r.begun s p inside), tt),
      )
    ]

pub own_directions :
    (s : MachineSetup) (v : View) (q : Queues) (r : Registers) (p : ℕ) → p < 32 → holds s.out p ≡ false → holds s.set p ≡ false
    → (not s.side_rule.pindirs || not (holds s.side p)) ≡ true → AllByRecursion (IsFree p) (tick_of s v q r).1.direction
unfolding tick_of tick_delay tick_word tick_by reading_of
own_directions s v q r p inside out set side =
    let op : Op = reading_of (current_word v r) s.side_rule in
    let effect = does (current_act v r) s v q r in
    elim (nat_lt 0 r.delay) as (λ b. AllByRecursion (IsFree p) (cond b (tick_delay s q r) (tick_word op s v q r)).1.direction) [
      | true ↦ (bit_at-zero p, (bit_at-zero p, tt))
      | false ↦ (
        effect.direction.own p inside out set,
        (direction_is_free s.side_rule.pindirs (holds s.side p) _ p side (side_is_free op.side r.begun s p inside), tt),
      )
    ]
