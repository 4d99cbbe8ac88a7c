-- The faults of lines, one line at a time.
use Rattle.std.proofs.Common.{◌≡◌, ℕ, ◌+◌, ◌<◌, Bool, List, length, drop, get_or, Option, None, Ok, sym, ap, ◌∙◌, unwrap_or}
use Rattle.pio_statement.specs.declared.statement.Statement.{Statement}
use Rattle.pio_assemble.specs.declared.before.Before.{Before}
use Rattle.pio_assemble.specs.declared.line.SourceLine.{SourceLine}
use Rattle.pio_assemble.specs.declared.fault.LineFault.{LineFault}
use Rattle.pio_assemble.specs.declared.fault.LineFault.TheVariants as line_fault
use Rattle.answers.specs.Answers.{IsFound}
use Rattle.pio_assemble.specs.Answers.{line_told, told, located}
use Rattle.pio_assemble.specs.Checks.{first_fault, line_fault as fault_of_line, after, after_line, fault_or}
use Rattle.pio_assemble.specs.Lines.{has_word, word_on}
use Rattle.pio_assemble.proofs.Lining.{first_left}

-- a word is on the lines that are left, by the first of them
pub word_left : (lines : List SourceLine) (i : ℕ) (l : SourceLine) (word : Option Bool) → i < length lines → l ≡ get_or lines i l
    → ((more : Bool) → word_on l.reading more ≡ unwrap_or word more)
    → has_word (drop i lines) ≡ unwrap_or word (has_word (drop (i + 1) lines))
unfolding has_word
word_left lines i l word within h says = ap has_word (first_left lines i l within h) ∙ says (has_word (drop (i + 1) lines))

-- a fault of the first of the lines that are left is the first one
pub fault_left : (b : Before) (lines : List SourceLine) (i : ℕ) (l : SourceLine) (fault : LineFault) → i < length lines → l ≡ get_or lines i l
    → IsFound (line_told fault) (fault_of_line b (has_word (drop (i + 1) lines)) l.reading)
    → IsFound (told (located l.number fault)) (first_fault b (drop i lines))
fault_left b lines i l line_fault.Memory within h found = tt
fault_left b lines i l (line_fault.Found kind) within h found = unfold first_fault in ap (first_fault b) (first_left lines i l within h) ∙ ap (λ f. fault_or l.number f (first_fault (after_line b l.reading) (drop (i + 1) lines))) found

-- the first of the lines that are left has no fault, and says this
pub passes_left : (b : Before) (lines : List SourceLine) (i : ℕ) (l : SourceLine) (s : Statement) → i < length lines → l ≡ get_or lines i l → l.reading ≡ Ok s
    → fault_of_line b (has_word (drop (i + 1) lines)) l.reading ≡ None
    → first_fault (after b s) (drop (i + 1) lines) ≡ first_fault b (drop i lines)
unfolding first_fault
passes_left b lines i l s within h says none = sym (ap (first_fault b) (first_left lines i l within h) ∙ ap (λ f. fault_or l.number f (first_fault (after_line b l.reading) (drop (i + 1) lines))) none ∙ ap (λ r. first_fault (after_line b r) (drop (i + 1) lines)) says)
