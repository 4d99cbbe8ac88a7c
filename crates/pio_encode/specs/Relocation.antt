-- What a word becomes when its program is loaded at an offset.
use Rattle.std.specs.Prelude.{ℕ, ◌+◌, ◌*◌, ◌/◌, ◌^◌, ◌==◌, nat_lt, if◌then◌else◌, Option, Some, None}
use Rattle.pio_encode.specs.declared.act.Act.{Act}
use Rattle.pio_encode.specs.declared.act.Act.TheVariants.{Jmp}
use Rattle.pio_encode.specs.Word.{bits}

-- A JMP's target, bits 4 to 0, moves with the program and has to stay below 32; any other word stays (SDK manual,
-- on loading programs).
abbrev pub relocated : ℕ → ℕ → Option ℕ
relocated word offset =
    if bits word 13 3 == 0
    then (if nat_lt (bits word 0 5 + offset) 32 then Some (word / 2 ^ 5 * 2 ^ 5 + (bits word 0 5 + offset)) else None)
    else Some word

-- what an act becomes: a jump goes further on, and nothing else changes
abbrev pub moved_act : ℕ → Act → Act
moved_act offset (Jmp condition address) = Jmp condition (address + offset)
moved_act offset act = act
