-- What the value-change text of what is inside a block is: as that of its samples, with a scope for the pads and one for each configured
-- machine. Which values these show is a choice of this profile.
--   pad_variables, machine_variables   the variables of the further scopes
--   first_pad, first_of_machine        the numbers of the first of them, from which their identifiers count on
--   inside_header_text                 the declaration commands
--   inside_dump_text                   all values
--   inside_changes_text                the values that a clock changes
--   inside_form                        the text, by what its parts add
use Rattle.std.specs.Prelude.{ℕ, ◌+◌, ◌*◌, ◌==◌, ◌&&◌, Bool, true, false, Option, Some, None, List, [], ◌∷◌, ◌++◌, codes, map, is_some, if◌then◌else◌}
use Rattle.block_core.specs.declared.inside.MachineInside.{MachineInside}
use Rattle.block_core.specs.declared.inside.Inside.{Inside}
use Rattle.block_core.specs.Sample.{bits_of, same_numbers, same_sample}
use Rattle.vcd_trace.specs.Characters.{digit_0, letter_i}
use Rattle.vcd_trace.specs.TextForm.{TextForm, opened_text, whole_text, told_text}
use Rattle.vcd_trace.specs.VcdText.{Variable, named, numbered, first_identifier, second_scope, scope_of, scope_text, clock_line, value_lines, change_lines, values_over, changes_over}

-- ---- the variables

-- what is at each pad: one bit a pin
unfoldable pub pad_variables : List Variable
pad_variables = numbered letter_i 1 0 32

-- What is inside a machine, in the order of its values (RP2040 Datasheet, section 3.2): the address and the word that it is at, its
-- scratch and shift registers, how many bits were shifted in and out, whether the instruction waits, and whether it is enabled.
unfoldable pub machine_variables : List Variable
machine_variables =
    named (codes "pc") 5 ∷ named (codes "instruction") 16 ∷ named (codes "x") 32 ∷ named (codes "y") 32 ∷ named (codes "isr") 32
    ∷ named (codes "osr") 32 ∷ named (codes "isr_count") 6 ∷ named (codes "osr_count") 6 ∷ named (codes "waits") 1 ∷ named (codes "enabled") 1 ∷ []

-- their widths in order
unfoldable pub machine_widths : List ℕ
machine_widths = map (λ v. v.width) machine_variables

-- a Boolean as the value of one bit
abbrev pub bit_of : Bool → ℕ
bit_of b = if b then 1 else 0

-- the values of a machine in order
abbrev pub machine_values : MachineInside → List ℕ
machine_values m =
    m.pc ∷ m.instruction ∷ m.x ∷ m.y ∷ m.isr ∷ m.osr ∷ m.isr_count ∷ m.osr_count ∷ bit_of m.waits ∷ bit_of m.enabled ∷ []

-- The number of the first pad's variable. Those of the other pads and of the machines count on from it, so that all have identifiers of
-- two characters.
abbrev pub first_pad : ℕ
first_pad = first_identifier + second_scope

-- the number of the first variable of the machine at a place, whichever machines are configured: 32 pads and ten variables of each machine
-- before it come before
abbrev pub first_of_machine : ℕ → ℕ
first_of_machine place = first_pad + 32 + 10 * place

-- ---- the declarations

-- the scope of the pads
abbrev pub pads_scope : List ℕ
pads_scope = scope_of (codes "$scope module pads $end\n") first_pad pad_variables

-- the first line of the scope of the machine at a place: `sm0` to `sm3`
abbrev pub machine_opening : ℕ → List ℕ
machine_opening place = codes "$scope module sm" ++ (digit_0 + place) ∷ codes " $end\n"

-- the scope of the machine at a place
abbrev pub machine_scope : ℕ → List ℕ
machine_scope place = scope_of (machine_opening place) (first_of_machine place) machine_variables

-- the scopes of the configured machines, from a place on
abbrev pub machine_scopes : ℕ → List Bool → List ℕ
machine_scopes place [] = []
machine_scopes place (here ∷ rest) = (if here then machine_scope place else []) ++ machine_scopes (place + 1) rest

-- the declaration commands: time scale, the scope of the samples as for one block, that of the pads, and one for each configured machine
unfoldable pub inside_header_text : List Bool → List ℕ
inside_header_text configured =
    codes "$timescale 1 ns $end\n" ++ scope_text (codes "$scope module pio $end\n") 0 ++ pads_scope ++ machine_scopes 0 configured
    ++ codes "$enddefinitions $end\n"

-- ---- the values

-- what is at each of the 32 pads
unfoldable pub pad_lines : ℕ → List ℕ
pad_lines pads = value_lines first_pad (map (λ v. v.width) pad_variables) (bits_of 32 pads)

-- all values of the machine at a place, where one is configured
abbrev pub machine_lines : ℕ → Option MachineInside → List ℕ
machine_lines place None = []
machine_lines place (Some m) = value_lines (first_of_machine place) machine_widths (machine_values m)

-- the same of the machines from a place on
abbrev pub machines_lines : ℕ → List (Option MachineInside) → List ℕ
machines_lines place [] = []
machines_lines place (m ∷ rest) = machine_lines place m ++ machines_lines (place + 1) rest

-- `$dumpvars`, all values of the sample, then of the pads, then of each configured machine, `$end` (IEEE 1364-2005, section 18.2.3.3)
unfoldable pub inside_dump_text : Inside → List ℕ
inside_dump_text s =
    codes "$dumpvars\n" ++ values_over 0 s.sample ++ pad_lines s.pads ++ machines_lines 0 s.machines ++ codes "$end\n"

-- the pads that a clock changes
unfoldable pub pad_changes : (before now : ℕ) → List ℕ
pad_changes before now = change_lines first_pad (map (λ v. v.width) pad_variables) (bits_of 32 before) (bits_of 32 now)

-- The values that a clock changes of the machine at a place. Which machines are configured no clock changes, so where there is none
-- before or none now, there is no line.
abbrev pub machine_changes : ℕ → (before now : Option MachineInside) → List ℕ
machine_changes place (Some before) (Some now) = change_lines (first_of_machine place) machine_widths (machine_values before) (machine_values now)
machine_changes place _ _ = []

-- the same of the machines from a place on
abbrev pub machines_changes : ℕ → (before now : List (Option MachineInside)) → List ℕ
machines_changes place (was ∷ before) (is ∷ now) = machine_changes place was is ++ machines_changes (place + 1) before now
machines_changes place _ _ = []

-- the values that a clock changes: of the sample, then of the pads, then of each configured machine
unfoldable pub inside_changes_text : (before now : Inside) → List ℕ
inside_changes_text before now =
    changes_over 0 before.sample now.sample ++ pad_changes before.pads now.pads ++ machines_changes 0 before.machines now.machines

-- ---- what is shown again

-- the same is inside a machine; or none is configured, before and now
abbrev pub same_machine : (before now : Option MachineInside) → Bool
same_machine None None = true
same_machine (Some before) (Some now) = same_numbers (machine_values before) (machine_values now)
same_machine _ _ = false

-- the same of the machines in the same places
abbrev pub same_machines : (before now : List (Option MachineInside)) → Bool
same_machines [] [] = true
same_machines (was ∷ before) (is ∷ now) = same_machine was is && same_machines before now
same_machines _ _ = false

-- the same is inside a block
abbrev pub same_inside : (before now : Inside) → Bool
same_inside before now = same_sample before.sample now.sample && ((before.pads == now.pads) && same_machines before.machines now.machines)

-- which machines are configured, by their places
abbrev pub places_of : Inside → List Bool
places_of s = map is_some s.machines

-- ---- the text

-- what a clock adds to the text: nothing where what is inside is that of the clock before
abbrev pub inside_step_text : ℕ → (before now : Inside) → List ℕ
inside_step_text clock before now = if same_inside before now then [] else clock_line clock ++ inside_changes_text before now

-- the text of what is inside a block in which these machines are configured
abbrev pub inside_form : List Bool → TextForm Inside
inside_form configured = record {
  head = inside_header_text configured ++ clock_line 0;
  first = inside_dump_text;
  later = inside_step_text;
  closing = clock_line;
}

-- the text from clock 0 on, without the clock that closes it
abbrev pub inside_open_text : List Bool → List Inside → List ℕ
inside_open_text configured told = opened_text (inside_form configured) told

-- the whole text from clock 0 on, which ends with the clock after the last one
abbrev pub inside_text : List Bool → List Inside → List ℕ
inside_text configured told = whole_text (inside_form configured) told

-- the text after these, with the clock that closes it where they have ended
abbrev pub inside_text_of : List Bool → List Inside → Bool → List ℕ
inside_text_of configured told ended = told_text (inside_form configured) told ended
