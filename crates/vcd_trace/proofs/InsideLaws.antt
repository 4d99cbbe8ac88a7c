-- The text of what is inside a block by its parts.
use Rattle.std.proofs.Common.{◌≡◌, ℕ, ◌+◌, ◌*◌, ◌<◌, Bool, true, false, Option, List, [], ◌∷◌, ◌++◌, length, drop, get_or, refl, sym, ap, ◌∙◌, append_assoc, append-nil, arith, cond, eqb}
use Rattle.std.specs.Prelude.{codes, replicate, if◌then◌else◌}
use Rattle.block_core.specs.declared.inside.MachineInside.{MachineInside}
use Rattle.block_core.specs.declared.inside.Inside.{Inside}
use Rattle.block_core.specs.Sample.{bits_of, same_numbers}
use Rattle.vcd_trace.specs.VcdText.{named, declaration, declarations, scope_text, value_lines, change_lines, values_over, changes_over, vector_line}
use Rattle.vcd_trace.specs.Groups.{bit_lines, bit_changes, vector_lines, vector_changes}
use Rattle.vcd_trace.specs.InsideText.{bit_of, inside_changes_text, inside_dump_text, inside_header_text, machine_changes, machine_lines, machine_scope, machine_scopes, machine_values, machine_variables, machine_widths, machines_changes, machines_lines, pad_changes, pad_lines, pad_variables, pads_scope}
use Rattle.vcd_trace.specs.InsideGroups.{flags_of, long_of, machine_variable, place_of, register_changes, registers_of, same_registers, short_of, words_of}
use Rattle.vcd_trace.proofs.TextLaws.{bit_changes-same, change_lines-append, drop_at, one_line, value_lines-append}
use Rattle.vcd_trace.proofs.ChangesLaws.{both_true, change_lines-vectors, same_numbers-equal, value_lines-vectors, vector_changes-none}

-- ---- parts in a row

five : (a b c d e : List ℕ) → a ++ b ++ c ++ d ++ e ≡ a ++ (b ++ (c ++ (d ++ e)))
five a b c d e = simp append_assoc

three : (a b c : List ℕ) → a ++ b ++ c ≡ a ++ (b ++ c)
three a b c = append_assoc a b c

-- the declaration commands one by one
pub inside_header-parts : (configured : List Bool) → inside_header_text configured ≡ codes "$timescale 1 ns $end\n" ++ (scope_text (codes "$scope module pio $end\n") 0 ++ (pads_scope ++ (machine_scopes 0 configured ++ codes "$enddefinitions $end\n")))
unfolding inside_header_text
inside_header-parts configured =
    five (codes "$timescale 1 ns $end\n") (scope_text (codes "$scope module pio $end\n") 0) pads_scope (machine_scopes 0 configured) (codes "$enddefinitions $end\n")

-- ---- the kinds of a machine's values

word_widths : List ℕ
word_widths = 5 ∷ 16 ∷ 32 ∷ 32 ∷ 32 ∷ 32 ∷ 6 ∷ 6 ∷ []

widths-kinds : machine_widths ≡ word_widths ++ replicate 2 1
unfolding machine_widths machine_variables word_widths
widths-kinds = refl

pub flags-bits : (waits enabled : Bool) → bit_of waits ∷ bit_of enabled ∷ [] ≡ bits_of 2 (bit_of waits + 2 * bit_of enabled)
unfolding bits_of
flags-bits true true = refl
flags-bits true false = refl
flags-bits false true = refl
flags-bits false false = refl

values-kinds : (m : MachineInside) → machine_values m ≡ words_of m ++ bits_of 2 (flags_of m)
values-kinds m = ap (λ (l : List ℕ). words_of m ++ l) (flags-bits m.waits m.enabled)

-- all values of a machine: the words, then the bits
pub machine-lines : (id : ℕ) (m : MachineInside) → value_lines id machine_widths (machine_values m) ≡ vector_lines id (words_of m) ++ bit_lines (id + 8) 2 (flags_of m)
unfolding bit_lines word_widths
machine-lines id m =
    let bits : List ℕ = bits_of 2 (flags_of m) in
    ap (λ (ws : List ℕ). value_lines id ws (machine_values m)) widths-kinds
    ∙ ap (λ (v : List ℕ). value_lines id (word_widths ++ replicate 2 1) v) (values-kinds m)
    ∙ value_lines-append id word_widths (replicate 2 1) (words_of m) bits refl
    ∙ ap (λ (x : List ℕ). x ++ value_lines (id + 8) (replicate 2 1) bits) (value_lines-vectors id word_widths (words_of m) refl refl)

-- and those that a clock changes
pub machine-changes : (id : ℕ) (a b : MachineInside) → change_lines id machine_widths (machine_values a) (machine_values b) ≡ vector_changes id (words_of a) (words_of b) ++ bit_changes (id + 8) 2 (flags_of a) (flags_of b)
unfolding bit_changes word_widths
machine-changes id a b =
    let ones : List ℕ = replicate 2 1 in
    let bits_a : List ℕ = bits_of 2 (flags_of a) in
    let bits_b : List ℕ = bits_of 2 (flags_of b) in
    ap (λ (ws : List ℕ). change_lines id ws (machine_values a) (machine_values b)) widths-kinds
    ∙ ap (λ (v : List ℕ). change_lines id (word_widths ++ ones) v (machine_values b)) (values-kinds a)
    ∙ ap (λ (v : List ℕ). change_lines id (word_widths ++ ones) (words_of a ++ bits_a) v) (values-kinds b)
    ∙ change_lines-append id word_widths ones (words_of a) bits_a (words_of b) bits_b refl refl
    ∙ ap (λ (x : List ℕ). x ++ change_lines (id + 8) ones bits_a bits_b) (change_lines-vectors id word_widths (words_of a) (words_of b) refl refl refl)

pub pads-lines : (pads : ℕ) → pad_lines pads ≡ bit_lines 161 32 pads
unfolding pad_lines pad_variables bit_lines
pads-lines pads = refl

pub pads-changes : (before now : ℕ) → pad_changes before now ≡ bit_changes 161 32 before now
unfolding pad_changes pad_variables bit_changes
pads-changes before now = refl

-- ---- what a clock changes of a machine

-- two parts, then two more
two_and_two : (a b v w : List ℕ) → (a ++ (b ++ v)) ++ w ≡ (a ++ (b ++ [])) ++ (v ++ w)
two_and_two a b v w =
    append_assoc a (b ++ v) w ∙ ap (λ (x : List ℕ). a ++ x) (append_assoc b v w ∙ ap (λ (x : List ℕ). x ++ (v ++ w)) (sym (append-nil b)))
    ∙ sym (append_assoc a (b ++ []) (v ++ w))

-- the address and the word, then all else
pub machine-kinds : (id : ℕ) (a b : MachineInside) → change_lines id machine_widths (machine_values a) (machine_values b) ≡ vector_changes id (place_of a) (place_of b) ++ register_changes (id + 2) a b
machine-kinds id a b =
    let pc : List ℕ = cond (eqb a.pc b.pc) [] (vector_line id b.pc) in
    let word : List ℕ = cond (eqb a.instruction b.instruction) [] (vector_line (id + 1) b.instruction) in
    let bits : List ℕ = bit_changes (id + 8) 2 (flags_of a) (flags_of b) in
    machine-changes id a b
    ∙ ap (λ (n : ℕ). (pc ++ (word ++ vector_changes n (registers_of a) (registers_of b))) ++ bits) (let e : id + 1 + 1 ≡ id + 2 = omega arith in e)
    ∙ ap (λ (n : ℕ). (pc ++ (word ++ vector_changes (id + 2) (registers_of a) (registers_of b))) ++ bit_changes n 2 (flags_of a) (flags_of b)) (let e : id + 8 ≡ id + 2 + 6 = omega arith in e)
    ∙ two_and_two pc word (vector_changes (id + 2) (registers_of a) (registers_of b)) (bit_changes (id + 2 + 6) 2 (flags_of a) (flags_of b))

-- where both change, they have the two lines
pub place-both : (id : ℕ) (a b : MachineInside) → (a.pc ≡ b.pc → ⊥) → (a.instruction ≡ b.instruction → ⊥) → vector_changes id (place_of a) (place_of b) ≡ vector_line id b.pc ++ vector_line (id + 1) b.instruction
place-both id a b h k =
    ap (λ (x : List ℕ). x ++ (cond (eqb a.instruction b.instruction) [] (vector_line (id + 1) b.instruction) ++ [])) (one_line a.pc b.pc (vector_line id b.pc) h)
    ∙ ap (λ (x : List ℕ). vector_line id b.pc ++ (x ++ [])) (one_line a.instruction b.instruction (vector_line (id + 1) b.instruction) k)
    ∙ ap (λ (x : List ℕ). vector_line id b.pc ++ x) (append-nil (vector_line (id + 1) b.instruction))

-- where all else is the same, it has no lines
pub registers-none : (id : ℕ) (a b : MachineInside) → same_registers a b ≡ true → register_changes id a b ≡ []
registers-none id a b h =
    let t = both_true (same_numbers (long_of a) (long_of b)) (same_numbers (short_of a) (short_of b)) h in
    let long : long_of a ≡ long_of b = same_numbers-equal (long_of a) (long_of b) t.0 in
    let short : short_of a ≡ short_of b = same_numbers-equal (short_of a) (short_of b) t.1 in
    let waits : bit_of a.waits ≡ bit_of b.waits = cc in
    let enabled : bit_of a.enabled ≡ bit_of b.enabled = cc in
    let registers : registers_of b ≡ registers_of a = cc in
    let flags : flags_of b ≡ flags_of a = omega (arith, waits, enabled) in
    ap (λ (l : List ℕ). vector_changes id (registers_of a) l ++ bit_changes (id + 6) 2 (flags_of a) (flags_of b)) registers
    ∙ ap (λ (x : List ℕ). x ++ bit_changes (id + 6) 2 (flags_of a) (flags_of b)) (vector_changes-none id (registers_of a))
    ∙ ap (λ (n : ℕ). bit_changes (id + 6) 2 (flags_of a) n) flags ∙ bit_changes-same (id + 6) 2 (flags_of a)

-- ---- the values one by one

pub inside_dump-parts : (s : Inside) → inside_dump_text s ≡ codes "$dumpvars\n" ++ (values_over 0 s.sample ++ (bit_lines 161 32 s.pads ++ (machines_lines 0 s.machines ++ codes "$end\n")))
unfolding inside_dump_text
inside_dump-parts s =
    five (codes "$dumpvars\n") (values_over 0 s.sample) (pad_lines s.pads) (machines_lines 0 s.machines) (codes "$end\n")
    ∙ ap (λ (x : List ℕ). codes "$dumpvars\n" ++ (values_over 0 s.sample ++ (x ++ (machines_lines 0 s.machines ++ codes "$end\n")))) (pads-lines s.pads)

-- the sample, then the pads and the machines
pub inside_changes-parts : (a b : Inside) → inside_changes_text a b ≡ changes_over 0 a.sample b.sample ++ (bit_changes 161 32 a.pads b.pads ++ machines_changes 0 a.machines b.machines)
unfolding inside_changes_text
inside_changes-parts a b =
    three (changes_over 0 a.sample b.sample) (pad_changes a.pads b.pads) (machines_changes 0 a.machines b.machines)
    ∙ ap (λ (x : List ℕ). changes_over 0 a.sample b.sample ++ (x ++ machines_changes 0 a.machines b.machines)) (pads-changes a.pads b.pads)

-- ---- the machines from a place on

pub machine_scopes-turn : (l : List Bool) (i : ℕ) (d : Bool) → i < length l → machine_scopes i (drop i l) ≡ (if get_or l i d then machine_scope i else []) ++ machine_scopes (i + 1) (drop (i + 1) l)
machine_scopes-turn l i d h = ap (machine_scopes i) (drop_at l i d h)

pub machines_lines-turn : (l : List (Option MachineInside)) (i : ℕ) (d : Option MachineInside) → i < length l → machines_lines i (drop i l) ≡ machine_lines i (get_or l i d) ++ machines_lines (i + 1) (drop (i + 1) l)
machines_lines-turn l i d h = ap (machines_lines i) (drop_at l i d h)

pub machines_changes-turn : (a b : List (Option MachineInside)) (i : ℕ) (d e : Option MachineInside) → i < length a → i < length b
    → machines_changes i (drop i a) (drop i b) ≡ machine_changes i (get_or a i d) (get_or b i e) ++ machines_changes (i + 1) (drop (i + 1) a) (drop (i + 1) b)
machines_changes-turn a b i d e h k =
    ap (λ (l : List (Option MachineInside)). machines_changes i l (drop i b)) (drop_at a i d h)
    ∙ ap (λ (l : List (Option MachineInside)). machines_changes i (get_or a i d ∷ drop (i + 1) a) l) (drop_at b i e k)

-- ---- the declarations of a machine

-- the declarations of a machine's variables from one on
unfoldable pub named_text : ℕ → ℕ → List ℕ
named_text first i = declarations (first + i) (drop i machine_variables)

pub named_text-all : (first : ℕ) → named_text first 0 ≡ declarations first machine_variables
unfolding named_text
named_text-all first = ap (λ (n : ℕ). declarations n machine_variables) (let e : first + 0 ≡ first = omega arith in e)

pub named_text-none : (first : ℕ) → named_text first 10 ≡ []
unfolding named_text machine_variables
named_text-none first = refl

length-machine_variables : length machine_variables ≡ 10
unfolding machine_variables
length-machine_variables = refl

-- the declaration of one, then those of the variables after it
pub named_text-turn : (first i : ℕ) → i < 10 → named_text first i ≡ declaration (first + i) (machine_variable i) ++ named_text first (i + 1)
unfolding named_text machine_variable
named_text-turn first i h =
    ap (declarations (first + i)) (drop_at machine_variables i (named [] 0) (let within : i < length machine_variables = omega (arith, length-machine_variables) in within))
    ∙ ap (λ (n : ℕ). declaration (first + i) (get_or machine_variables i (named [] 0)) ++ declarations n (drop (i + 1) machine_variables)) (let e : first + i + 1 ≡ first + (i + 1) = omega arith in e)
