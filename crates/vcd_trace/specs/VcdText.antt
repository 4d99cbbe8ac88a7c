-- What the value-change text of a list of samples is (IEEE 1364-2005, section 18.2), for the 88 variables of this profile.
use Rattle.std.specs.Prelude.{ℕ, ◌+◌, ◌-◌, ◌==◌, nat_lt, Bool, false, Option, Some, None, List, [], ◌∷◌, ◌++◌, zero, suc, codes, decimal, map, if◌then◌else◌}
use Rattle.std.specs.Fmt.{digits}
use Rattle.vcd_trace.specs.Characters.{newline, blank, hash, digit_0, letter_b, letter_d, letter_f, letter_p, letter_r, letter_s, letter_t, letter_w, tilde}
use Rattle.block_core.specs.declared.sample.Sample.{Sample}
use Rattle.block_core.specs.Sample.{values_of, same_sample}
use Rattle.vcd_trace.specs.TextForm.{TextForm, opened_text, whole_text, told_text}

-- a variable of the text: its name, and its width in bits
pub record Variable : Type 0 where
  pub name : List ℕ
  pub width : ℕ

-- a variable of this name and width
abbrev pub named : List ℕ → ℕ → Variable
named name width = record { name = name; width = width }

-- the variable of a letter and a number, and its width
abbrev pub variable : ℕ → ℕ → ℕ → Variable
variable letter width number = named (letter ∷ decimal number) width

-- so many variables of one letter and one width, numbered on from a number
abbrev pub numbered : ℕ → ℕ → ℕ → ℕ → List Variable
numbered letter width from zero = []
numbered letter width from (suc more) = variable letter width from ∷ numbered letter width (from + 1) more

-- levels p, directions d, flags f, TX levels t, RX levels r, words read w, sticky flags s, in the order of a sample's values (choice of this profile)
unfoldable pub variables : List Variable
variables =
    numbered letter_p 1 0 32 ++ numbered letter_d 1 0 32 ++ numbered letter_f 1 0 8 ++ numbered letter_t 4 0 4
    ++ numbered letter_r 4 0 4 ++ numbered letter_w 32 0 4 ++ numbered letter_s 4 0 4

-- the widths of the variables in order
unfoldable pub widths : List ℕ
widths = map (λ v. v.width) variables

-- the number of the first variable, that of the first printable character but the blank; those after it count on
abbrev pub first_identifier : ℕ
first_identifier = 33

-- how much greater the numbers are of the variables of a second scope
abbrev pub second_scope : ℕ
second_scope = 128

-- The identifier of the variable with this number: one printable character, and of one of a second scope `~` and the character
-- (IEEE 1364-2005, section 18.2.1; which characters is a choice of this profile).
abbrev pub identifier : ℕ → List ℕ
identifier id = if nat_lt id second_scope then id ∷ [] else tilde ∷ (id - second_scope) ∷ []

-- `$var wire W ID NAME $end` (IEEE 1364-2005, section 18.2.3.7)
abbrev pub declaration : ℕ → Variable → List ℕ
declaration id v = codes "$var wire " ++ decimal v.width ++ blank ∷ (identifier id ++ blank ∷ (v.name ++ codes " $end\n"))

-- the declarations of variables whose identifiers count on from one
abbrev pub declarations : ℕ → List Variable → List ℕ
declarations id [] = []
declarations id (v ∷ rest) = declaration id v ++ declarations (id + 1) rest

-- a scope of this first line with these variables (IEEE 1364-2005, section 18.2.3.4), whose identifiers count on from one
abbrev pub scope_of : List ℕ → ℕ → List Variable → List ℕ
scope_of opening id those = opening ++ declarations id those ++ codes "$upscope $end\n"

-- the scope of this first line with a sample's variables, whose numbers are so much greater
abbrev pub scope_text : List ℕ → ℕ → List ℕ
scope_text opening more = scope_of opening (first_identifier + more) variables

-- the declaration commands: time scale, scope, variables
unfoldable pub header_text : List ℕ
header_text = codes "$timescale 1 ns $end\n" ++ scope_text (codes "$scope module pio $end\n") 0 ++ codes "$enddefinitions $end\n"

-- `#` and a clock (IEEE 1364-2005, section 18.2.2)
abbrev pub clock_line : ℕ → List ℕ
clock_line clock = hash ∷ (decimal clock ++ newline ∷ [])

-- a value of one bit: its digit and the identifier
abbrev pub bit_line : ℕ → ℕ → List ℕ
bit_line id value = (digit_0 + value) ∷ (identifier id ++ newline ∷ [])

-- a value of more bits: `b`, its binary digits without leading zeros, a blank and the identifier
abbrev pub vector_line : ℕ → ℕ → List ℕ
vector_line id value = letter_b ∷ (digits 2 false value ++ blank ∷ (identifier id ++ newline ∷ []))

-- the line of a value of this width
abbrev pub value_line : ℕ → ℕ → ℕ → List ℕ
value_line width id value = if width == 1 then bit_line id value else vector_line id value

-- the lines of values with these widths, whose identifiers count on from one
abbrev pub value_lines : ℕ → List ℕ → List ℕ → List ℕ
value_lines id (w ∷ ws) (v ∷ vs) = value_line w id v ++ value_lines (id + 1) ws vs
value_lines id _ _ = []

-- the lines of those values that are not what they were
abbrev pub change_lines : ℕ → List ℕ → List ℕ → List ℕ → List ℕ
change_lines id (w ∷ ws) (was ∷ before) (is ∷ now) = (if was == is then [] else value_line w id is) ++ change_lines (id + 1) ws before now
change_lines id _ _ _ = []

-- all values of a sample, of variables whose numbers are so much greater
unfoldable pub values_over : ℕ → Sample → List ℕ
values_over more s = value_lines (first_identifier + more) widths (values_of s)

-- `$dumpvars`, all values of a sample, `$end` (IEEE 1364-2005, section 18.2.3.3)
unfoldable pub dump_text : Sample → List ℕ
dump_text s = codes "$dumpvars\n" ++ values_over 0 s ++ codes "$end\n"

-- the values that a clock changes, in order, of variables whose numbers are so much greater
unfoldable pub changes_over : ℕ → Sample → Sample → List ℕ
changes_over more before now = change_lines (first_identifier + more) widths (values_of before) (values_of now)

-- the values that a clock changes, in order
abbrev pub changes_text : Sample → Sample → List ℕ
changes_text before now = changes_over 0 before now

-- what a clock adds to the text: nothing where its sample is that of the clock before
abbrev pub step_text : ℕ → Sample → Sample → List ℕ
step_text clock before now = if same_sample before now then [] else clock_line clock ++ changes_text before now

-- the last sample is shown again, which adds nothing
abbrev pub shows_again : Option Sample → Sample → Bool
shows_again None now = false
shows_again (Some before) now = same_sample before now

-- the text of samples
abbrev pub vcd_form : TextForm Sample
vcd_form = record { head = header_text ++ clock_line 0; first = dump_text; later = step_text; closing = clock_line }

-- the text of the samples from clock 0 on, without the clock that closes it
abbrev pub open_text : List Sample → List ℕ
open_text told = opened_text vcd_form told

-- the whole text of the samples from clock 0 on, which ends with the clock after the last one
abbrev pub vcd_text : List Sample → List ℕ
vcd_text told = whole_text vcd_form told

-- the text after these samples, with the clock that closes it where they have ended
abbrev pub text_of : List Sample → Bool → List ℕ
text_of told ended = told_text vcd_form told ended
