-- The phase of the transmitter's machine: 80 ticks from the PULL of a word to that of the next one.
--   IsPulling        it is at the PULL, having stalled or not
--   IsOnCourse       it is where the program brings it
--   phase_of         its phase
--   MovesOn          what a tick makes of it
use Rattle.std.specs.Prelude.{◌≡◌, ℕ, ◌+◌, ◌-◌, ◌*◌, ◌%◌, ◌==◌, ◌≤◌, ◌⊎◌, Option, None, if◌then◌else◌}
use Rattle.sm_registers.specs.declared.registers.Registers.{Registers}
pub use Rattle.program_runs.specs.Steps.{IsAtInstruction}

-- at the PULL
pub record IsPulling (r : Registers) : Type 0 where
  pub pc : r.pc ≡ 0
  pub delay : r.delay ≡ 0
  pub pending : r.pending ≡ None

-- At the PULL, or in the delay after the last JMP; at SET; at OUT, or at JMP, with X counting the data bits that are left.
pub data IsOnCourse (r : Registers) : Type 0 where
  pulls : IsPulling r → IsOnCourse r
  ends : (left : ℕ) → left ≤ 6 → IsAtInstruction 0 left r → IsOnCourse r
  starts : (left : ℕ) → left ≤ 7 → IsAtInstruction 1 left r → IsOnCourse r
  sends : (left : ℕ) → left ≤ 7 → r.x ≤ 7 → IsAtInstruction 2 left r → IsOnCourse r
  counts : r.x ≤ 7 → IsAtInstruction 3 0 r → IsOnCourse r

-- 0 at the PULL; 1 to 8 after it, with the line high; 9 to 16 after SET, in the start bit; then eight for each data bit
abbrev pub phase_of : Registers → ℕ
phase_of r =
    if r.pc == 0 then (80 - r.delay) % 80 else
    if r.pc == 1 then 8 - r.delay else
    if r.pc == 2 then 16 + 8 * (7 - r.x) - r.delay else 17 + 8 * (7 - r.x)

-- A tick moves it to the next phase modulo 80, or it stalls at phase 0, where TX is empty.
pub record MovesOn (front : Option ℕ) (before after : Registers) : Type 0 where
  pub on_course : IsOnCourse after
  pub phase : (phase_of after ≡ (phase_of before + 1) % 80) ⊎ ((front ≡ None) × (phase_of before ≡ 0) × (phase_of after ≡ 0))
