-- The lines of a text, one at a time.
use Rattle.std.proofs.Common.{◌≡◌, ℕ, ◌+◌, ◌≤◌, ◌==◌, length, arith, List, ◌∷◌, map, Result, Ok, Err, Option, Some, Bor, sym, ap, ◌∙◌}
use Rattle.std.specs.Prelude.{option_copied}
use Rattle.std.proofs.lemmas.List.Splits.{length-slice_split}
use Rattle.std.proofs.lemmas.List.Sums.{count_by-le-length}
use Rattle.byte_lines.specs.Bytes.{newline}
use Rattle.byte_lines.specs.Lines.{lines_of, lines_left}
use Rattle.dreq_pacing.specs.declared.fault.StimKind.{StimKind}
use Rattle.dreq_pacing.specs.declared.line.Line.{Line}
use Rattle.dreq_pacing.specs.declared.stimulus.Reader.{Reader}
use Rattle.dreq_pacing.specs.Fields.{before_newline, fields_of, lines_after}
use Rattle.dreq_pacing.proofs.Parts.{lines-opened}
use Rattle.dreq_pacing.specs.Reading.{StimulusRefusal, after_line, lines_from}

-- what the lines that are left make of the reader
abbrev pub going_on : ℕ → Reader → List (List ℕ) → Result (List Line) StimulusRefusal
going_on number r lines = lines_from number r (map fields_of lines)

-- what is left, at its first line
pub opened : (number : ℕ) (r : Reader) (rest : Option (Bor (List ℕ))) (text : Bor (List ℕ)) (all : Result (List Line) StimulusRefusal) → rest ≡ Some text → going_on number r (lines_left (option_copied rest)) ≡ all → going_on number r (before_newline text.now ∷ lines_after text.now) ≡ all
opened number r rest text all is whole =
    ap (going_on number r) (sym (ap (λ (o : Option (Bor (List ℕ))). lines_left (option_copied o)) is ∙ lines-opened text.now)) ∙ whole

pub one_less : (rest : Option (Bor (List ℕ))) (text : Bor (List ℕ)) → rest ≡ Some text → length (lines_left (option_copied rest)) ≡ length (lines_after text.now) + 1
one_less rest text is =
    ap (λ (o : Option (Bor (List ℕ))). length (lines_left (option_copied o))) is ∙ ap length (lines-opened text.now) ∙ omega arith

-- how many lines a text has at most
pub lines_few : (text : List ℕ) → length (lines_of text) ≤ length text + 1
lines_few text =
    let count = length-slice_split (λ b. b == newline) text in
    let most = count_by-le-length (λ b. b == newline) text in
    omega arith

-- what follows a line
chosen : ℕ → List (List (List ℕ)) → Result Reader StimKind → Result (List Line) StimulusRefusal
chosen number rest said = elim said [ Ok after ↦ lines_from (number + 1) after rest | Err kind ↦ Err (record { line = number; kind = kind }) ]

pub good_line : (number : ℕ) (r after : Reader) (line : List ℕ) (left : List (List ℕ)) (all : Result (List Line) StimulusRefusal) → after_line r (fields_of line) ≡ Ok after → going_on number r (line ∷ left) ≡ all → going_on (number + 1) after left ≡ all
unfolding chosen
good_line number r after line left all e whole = sym (ap (chosen number (map fields_of left)) e) ∙ whole

pub bad_line : (number : ℕ) (r : Reader) (line : List ℕ) (left : List (List ℕ)) (all : Result (List Line) StimulusRefusal) (kind : StimKind) → after_line r (fields_of line) ≡ Err kind → going_on number r (line ∷ left) ≡ all → all ≡ Err (record { line = number; kind = kind })
unfolding chosen
bad_line number r line left all kind e whole = sym (sym (ap (chosen number (map fields_of left)) e) ∙ whole)
