-- What the laws of the crates below say, as premises here.
use Rattle.std.proofs.Common.{◌≡◌, ℕ, ◌+◌, ◌%◌, ◌^◌, ◌<◌, ◌==◌, not, ◌||◌, true, false, nat_lt, List, if◌then◌else◌}
use Rattle.std.specs.Int.{bit_at}
use Rattle.std.specs.List.{AllByRecursion}
use Rattle.pin_matrix.specs.Pads.{pads_of, seen_of}
use Rattle.pin_matrix.specs.Pins.{rotated_right, writes_of, place_of, IsWrite, IsFree, merged, last_of}
use Rattle.pin_matrix.specs.declared.machine.MachineSetup.{MachineSetup}
use Rattle.pin_matrix.specs.declared.mapping.Mapping.{Mapping}
use Rattle.sm_registers.specs.declared.registers.Registers.{Registers}
use Rattle.sm_registers.specs.View.{View}
use Rattle.sm_registers.specs.Laws.{IsAlike, WritesPins}
use Rattle.sm_registers.specs.Queues.{Queues}
use Rattle.sm_registers.specs.Ranges.{IsPlaced}
use Rattle.sm_registers.specs.Rules.{holds}
use Rattle.sm_registers.specs.Tick.{tick_of}
use Rattle.dreq_pacing.specs.declared.line.Line.{Line}
use Rattle.dreq_pacing.specs.Lines.{IsLine}
use Rattle.dreq_pacing.specs.Due.{quiet, with_lines}
use Rattle.dreq_pacing.specs.Runs.{is_set, last_level, level_bit}

-- those of a tick
pub record TickLaws : Type 0 where
  pub placed : (s : MachineSetup) (v : View) (q : Queues) (r : Registers) → IsPlaced r → IsPlaced (tick_of s v q r).0
  pub writes : (s : MachineSetup) (v : View) (q : Queues) (r : Registers) → WritesPins (tick_of s v q r).1
  pub levels : (s : MachineSetup) (v : View) (q : Queues) (r : Registers) (p : ℕ) → p < 32 → holds s.out p ≡ false → holds s.set p ≡ false → (s.side_rule.pindirs || not (holds s.side p)) ≡ true → AllByRecursion (IsFree p) (tick_of s v q r).1.level
  pub directions : (s : MachineSetup) (v : View) (q : Queues) (r : Registers) (p : ℕ) → p < 32 → holds s.out p ≡ false → holds s.set p ≡ false → (not s.side_rule.pindirs || not (holds s.side p)) ≡ true → AllByRecursion (IsFree p) (tick_of s v q r).1.direction
  pub sees : (s : MachineSetup) (v w : View) (q : Queues) (r : Registers) → IsAlike s r v w → tick_of s v q r ≡ tick_of s w q r

-- those of pins
pub record PinLaws : Type 0 where
  pub mapped : (m : Mapping) (value p : ℕ) → p < 32 → bit_at (writes_of m value).0 p ≡ (if nat_lt (place_of m p) m.count then 1 else 0)
  pub counted : (pins base i : ℕ) → pins < 2 ^ 32 → base < 32 → i < 32 → bit_at (rotated_right pins base) i ≡ bit_at pins ((base + i) % 32)
  pub last : (p old : ℕ) (ws : List (ℕ × ℕ)) → p < 32 → AllByRecursion IsWrite ws → bit_at (merged old ws) p ≡ last_of p (bit_at old p) ws
  pub free : (p old : ℕ) (ws : List (ℕ × ℕ)) → AllByRecursion (IsFree p) ws → last_of p old ws ≡ old
  pub none : IsWrite (0, 0)
  pub pad : (level direction outside p : ℕ) → direction < 2 ^ 32 → p < 32 → bit_at (pads_of level direction outside) p ≡ (if bit_at direction p == 1 then bit_at level p else bit_at outside p)
  pub merged_word : (old : ℕ) (ws : List (ℕ × ℕ)) → old < 2 ^ 32 → AllByRecursion IsWrite ws → merged old ws < 2 ^ 32
  pub pads_word : (level direction outside : ℕ) → level < 2 ^ 32 → outside < 2 ^ 32 → pads_of level direction outside < 2 ^ 32
  pub seen_word : (bypass pad pad_2 : ℕ) → pad < 2 ^ 32 → pad_2 < 2 ^ 32 → seen_of bypass pad pad_2 < 2 ^ 32
  pub seen : (bypass pad pad_2 p : ℕ) → bypass < 2 ^ 32 → p < 32 → bit_at (seen_of bypass pad pad_2) p ≡ (if bit_at bypass p == 1 then bit_at pad p else bit_at pad_2 p)

-- those of a stimulus's pin lines
pub record LineLaws : Type 0 where
  pub set : (lines : List Line) (pin : ℕ) → AllByRecursion IsLine lines → pin < 32 → bit_at (with_lines lines quiet).pins pin ≡ is_set (last_level pin lines)
  pub level : (lines : List Line) (pin : ℕ) → AllByRecursion IsLine lines → pin < 32 → bit_at (with_lines lines quiet).values pin ≡ level_bit (last_level pin lines)
