-- The words of lines, one line at a time.
use Rattle.std.proofs.Common.{◌≡◌, ℕ, ◌+◌, true, false, Bool, cond, List, [], ◌∷◌, ◌++◌, map, Result, Ok, Err, Option, Some, Bor, refl, sym, ap, ◌∙◌, append_assoc}
use Rattle.std.specs.Prelude.{option_copied, nat_lt}
use Rattle.byte_lines.specs.Lines.{lines_of, lines_left}
use Rattle.word_file.specs.declared.fault.WordFault.{WordFault}
use Rattle.word_file.specs.declared.fault.WordKind.TheVariants.{BadWord, TooMany}
use Rattle.word_file.specs.declared.line.WordLine.{WordLine}
use Rattle.word_file.specs.declared.line.WordLine.TheVariants.{Blank, Word, Bad}
use Rattle.word_file.specs.Line.{line_says}
use Rattle.word_file.specs.Reading.{with_front, words_from, most_words}

-- what the lines that are left add to the words so far
abbrev pub going_from : List ℕ → ℕ → ℕ → List (List ℕ) → Result (List ℕ) WordFault
going_from front number count lines = with_front front (words_from number count (map line_says lines))

with_front-append : (a b : List ℕ) (r : Result (List ℕ) WordFault) → with_front (a ++ b) r ≡ with_front a (with_front b r)
with_front-append a b (Ok words) = ap (λ (ws : List ℕ). Ok ws) (append_assoc a b words)
with_front-append a b (Err fault) = refl

pub with_front-nil : (r : Result (List ℕ) WordFault) → with_front [] r ≡ r
with_front-nil (Ok words) = refl
with_front-nil (Err fault) = refl

-- what is left, at its first line
pub opened : (front : List ℕ) (number count : ℕ) (rest : Option (Bor (List ℕ))) (text : Bor (List ℕ)) (line : List ℕ) (left : List (List ℕ)) (all : Result (List ℕ) WordFault) → rest ≡ Some text → lines_of text.now ≡ line ∷ left → going_from front number count (lines_left (option_copied rest)) ≡ all → going_from front number count (line ∷ left) ≡ all
opened front number count rest text line left all is first whole =
    ap (going_from front number count) (sym (ap (λ (r : Option (Bor (List ℕ))). lines_left (option_copied r)) is ∙ first)) ∙ whole

-- the line that says this
says : (front : List ℕ) (number count : ℕ) (line : List ℕ) (left : List (List ℕ)) (said : WordLine) (all : Result (List ℕ) WordFault) → line_says line ≡ said → going_from front number count (line ∷ left) ≡ all → with_front front (words_from number count (said ∷ map line_says left)) ≡ all
says front number count line left said all e whole = ap (λ (s : WordLine). with_front front (words_from number count (s ∷ map line_says left))) (sym e) ∙ whole

pub blank_line : (front : List ℕ) (number count : ℕ) (line : List ℕ) (left : List (List ℕ)) (all : Result (List ℕ) WordFault) → line_says line ≡ Blank → going_from front number count (line ∷ left) ≡ all → going_from front (number + 1) count left ≡ all
blank_line front number count line left all e whole = says front number count line left Blank all e whole

pub bad_line : (front : List ℕ) (number count : ℕ) (line : List ℕ) (left : List (List ℕ)) (all : Result (List ℕ) WordFault) → line_says line ≡ Bad → going_from front number count (line ∷ left) ≡ all → all ≡ Err (record { line = number; kind = BadWord })
bad_line front number count line left all e whole = sym (says front number count line left Bad all e whole)

chosen : (b : Bool) (x y r : Result (List ℕ) WordFault) (front : List ℕ) (t : Bool) → b ≡ t → with_front front (cond b x y) ≡ r → with_front front (cond t x y) ≡ r
chosen b x y r front t e h = ap (λ (c : Bool). with_front front (cond c x y)) (sym e) ∙ h

pub word_line_in : (front : List ℕ) (number count w : ℕ) (line : List ℕ) (left : List (List ℕ)) (all : Result (List ℕ) WordFault) → line_says line ≡ Word w → nat_lt count most_words ≡ true → going_from front number count (line ∷ left) ≡ all → going_from (front ++ w ∷ []) (number + 1) (count + 1) left ≡ all
word_line_in front number count w line left all e room whole =
    let after = words_from (number + 1) (count + 1) (map line_says left) in
    with_front-append front (w ∷ []) after
    ∙ chosen (nat_lt count most_words) (with_front (w ∷ []) after) (Err (record { line = number; kind = TooMany })) all front true room (says front number count line left (Word w) all e whole)

pub word_too_many : (front : List ℕ) (number count w : ℕ) (line : List ℕ) (left : List (List ℕ)) (all : Result (List ℕ) WordFault) → line_says line ≡ Word w → nat_lt count most_words ≡ false → going_from front number count (line ∷ left) ≡ all → all ≡ Err (record { line = number; kind = TooMany })
word_too_many front number count w line left all e full whole =
    let after = words_from (number + 1) (count + 1) (map line_says left) in
    sym (chosen (nat_lt count most_words) (with_front (w ∷ []) after) (Err (record { line = number; kind = TooMany })) all front false full (says front number count line left (Word w) all e whole))
