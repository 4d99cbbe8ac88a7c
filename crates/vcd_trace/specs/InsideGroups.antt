-- What the variables and the values of what is inside are by their kind: words of private clauses.
use Rattle.std.specs.Prelude.{ℕ, ◌+◌, ◌*◌, ◌&&◌, Bool, List, [], ◌∷◌, ◌++◌, get_or}
use Rattle.block_core.specs.declared.inside.MachineInside.{MachineInside}
use Rattle.block_core.specs.Sample.{same_numbers}
use Rattle.vcd_trace.specs.VcdText.{Variable, named}
use Rattle.vcd_trace.specs.Groups.{bit_changes, vector_changes}
use Rattle.vcd_trace.specs.InsideText.{bit_of, machine_variables}

-- a variable of a machine, by its place in their order
unfoldable pub machine_variable : ℕ → Variable
machine_variable number = get_or machine_variables number (named [] 0)

-- the address and the word that a machine is at
abbrev pub place_of : MachineInside → List ℕ
place_of m = m.pc ∷ m.instruction ∷ []

-- its other values of more than one bit
abbrev pub registers_of : MachineInside → List ℕ
registers_of m = m.x ∷ m.y ∷ m.isr ∷ m.osr ∷ m.isr_count ∷ m.osr_count ∷ []

-- how many bits were shifted in and out
abbrev pub counts_of : MachineInside → List ℕ
counts_of m = m.isr_count ∷ m.osr_count ∷ []

-- all of them
abbrev pub words_of : MachineInside → List ℕ
words_of m = m.pc ∷ m.instruction ∷ registers_of m

-- those of one bit, as a number
abbrev pub flags_of : MachineInside → ℕ
flags_of m = bit_of m.waits + 2 * bit_of m.enabled

-- the registers of 32 bits
abbrev pub long_of : MachineInside → List ℕ
long_of m = m.x ∷ m.y ∷ m.isr ∷ m.osr ∷ []

-- the counts, and the values of one bit
abbrev pub short_of : MachineInside → List ℕ
short_of m = m.isr_count ∷ m.osr_count ∷ bit_of m.waits ∷ bit_of m.enabled ∷ []

-- two machines agree in all but the address and the word
abbrev pub same_registers : (before now : MachineInside) → Bool
same_registers before now = same_numbers (long_of before) (long_of now) && same_numbers (short_of before) (short_of now)

-- what a clock changes of these, whose numbers count on from one
abbrev pub register_changes : ℕ → (before now : MachineInside) → List ℕ
register_changes id before now = vector_changes id (registers_of before) (registers_of now) ++ bit_changes (id + 6) 2 (flags_of before) (flags_of now)
