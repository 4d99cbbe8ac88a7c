-- What a stimulus has: its lines, or its first fault (choice of this profile).
--   StimulusRefusal  a fault with its line
--   version_of       the version that a version line tells
--   after_line       a reader after one more line
--   read_of          the lines of a text whose machines are below so many, or its first fault
--   stimulus_of      the lines of a text for one block, or its first fault
use Rattle.std.specs.Prelude.{ℕ, ◌+◌, ◌==◌, ◌&&◌, nat_lt, Bool, false, Option, Some, None, List, [], ◌∷◌, Result, Ok, Err, map, if◌then◌else◌, codes}
use Rattle.std.specs.Str.{bytes_eq}
use Rattle.byte_lines.specs.Lines.{lines_of}
use Rattle.dreq_pacing.specs.declared.fault.StimKind.{StimKind}
use Rattle.dreq_pacing.specs.declared.fault.StimKind.TheVariants.{BadLine, Range, Many}
use Rattle.dreq_pacing.specs.declared.fault.StimFault.{StimFault}
use Rattle.dreq_pacing.specs.declared.fault.StimFault.TheVariants.{Memory, At}
use Rattle.dreq_pacing.specs.declared.line.Line.{Line}
use Rattle.dreq_pacing.specs.declared.stimulus.Reader.{Reader}
use Rattle.dreq_pacing.specs.Drafts.{first_draft, objection, with_line}
use Rattle.dreq_pacing.specs.Fields.{fields_of}
use Rattle.dreq_pacing.specs.Form.{line_of}
use Rattle.dreq_pacing.specs.Number.{is_number, in_range}

-- where a stimulus is faulty, and why
pub record StimulusRefusal : Type 0 where
  pub line : ℕ
  pub kind : StimKind

-- the most lines with fields
abbrev pub most_lines : ℕ
most_lines = 1000000

-- nothing is read: without a version line the file is of version 1
abbrev pub first_reader : ℕ → Reader
first_reader machines = record { count = 0; two = false; draft = first_draft machines }

-- whether a version is 2
abbrev pub is_two : Option ℕ → Result Bool StimKind
is_two None = Err Range
is_two (Some version) = Ok (version == 2)

-- whether a version line tells version 2, by the fields after its word: one number, 1 or 2
abbrev pub version_of : List (List ℕ) → Result Bool StimKind
version_of [] = Err BadLine
version_of (number ∷ []) = if is_number number then is_two (in_range 1 2 number) else Err BadLine
version_of (number ∷ other ∷ others) = Err BadLine

-- a reader after the version line
abbrev pub with_version : Reader → Result Bool StimKind → Result Reader StimKind
with_version r (Err kind) = Err kind
with_version r (Ok two) = Ok (record { count = r.count + 1; two = two; draft = r.draft })

-- a reader after a line, unless something is wrong with it beside those before
abbrev pub unless_objected : Reader → Line → Option StimKind → Result Reader StimKind
unless_objected r l (Some kind) = Err kind
unless_objected r l None = Ok (record { count = r.count + 1; two = r.two; draft = with_line r.draft l })

-- a reader after a line, unless its form or a range is wrong
abbrev pub with_said : Reader → Result Line StimKind → Result Reader StimKind
with_said r (Err kind) = Err kind
with_said r (Ok l) = unless_objected r l (objection r.draft l)

-- A reader after one more line, or what is wrong with the line. One without fields is nothing. The first with fields may be
-- the version line.
abbrev pub after_line : Reader → List (List ℕ) → Result Reader StimKind
after_line r [] = Ok r
after_line r (field ∷ fields) =
    if nat_lt r.count most_lines then
    (if r.count == 0 && bytes_eq field (codes "version") then with_version r (version_of fields)
    else with_said r (line_of r.draft.machines r.two (field ∷ fields)))
    else Err Many

-- the lines of a reader after lines with these fields, or the first fault; the first of them has this number
abbrev pub lines_from : ℕ → Reader → List (List (List ℕ)) → Result (List Line) StimulusRefusal
lines_from number r [] = Ok r.draft.lines
lines_from number r (fields ∷ rest) = elim (after_line r fields) [
  | Ok after ↦ lines_from (number + 1) after rest
  | Err kind ↦ Err (record { line = number; kind = kind })
]

-- The lines of a text whose machines are below so many, or its first fault.
unfoldable pub read_of : ℕ → List ℕ → Result (List Line) StimulusRefusal
read_of machines text = lines_from 1 (first_reader machines) (map fields_of (lines_of text))

-- the lines of a text for one block, whose machines are 0 to 3, or its first fault
unfoldable pub stimulus_of : List ℕ → Result (List Line) StimulusRefusal
stimulus_of text = read_of 4 text

-- the fault that is told, nothing where memory ran out
abbrev pub told : StimFault → Option StimulusRefusal
told Memory = None
told (At line kind) = Some (record { line = line; kind = kind })
