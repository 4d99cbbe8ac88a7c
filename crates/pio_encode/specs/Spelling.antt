-- Which text a word has: that of the instruction that pioasm assembles to it, or the word's number.
use Rattle.std.specs.Prelude.{◌≡◌, ℕ, ◌/◌, ◌%◌, ◌^◌, ◌==◌, ◌&&◌, ◌⊎◌, not, if◌then◌else◌, IsTrue, Bool, true, false, List, [], ◌∷◌, ◌++◌, codes}
use Rattle.std.specs.Fmt.{digit_glyph}
use Rattle.pio_encode.specs.declared.act.Act.{Act}
use Rattle.pio_encode.specs.declared.act.Act.TheVariants.{Wait, Irq, Nothing}
use Rattle.pio_encode.specs.declared.act.WaitSource.{WaitSource}
use Rattle.pio_encode.specs.declared.act.WaitSource.TheVariants as wait_source
use Rattle.pio_encode.specs.declared.op.Op.{Op}
use Rattle.pio_encode.specs.declared.rule.SideRule.{SideRule}
use Rattle.pio_encode.specs.Ranges.{OpFits}
use Rattle.pio_encode.specs.Text.{op_text}
use Rattle.pio_encode.specs.Word.{bits, reading_of, word_of}

-- the index's bit 3 is clear: pioasm has flags 0 to 7 alone
abbrev pub is_flag : ℕ → Bool
is_flag index = index / 2 ^ 3 % 2 == 0

-- a WAIT's index can be written
abbrev pub has_index_text : WaitSource → ℕ → Bool
has_index_text wait_source.Gpio index = true
has_index_text wait_source.Pin index = true
has_index_text wait_source.Irq index = is_flag index

-- pioasm can write it: no flag above 7, and not both `clear` and `wait`
abbrev pub has_text : Act → Bool
has_text (Wait polarity source index) = has_index_text source index
has_text (Irq clear wait index) = not (clear && wait) && is_flag index
has_text Nothing = false
has_text _ = true

-- four bits of a word as a lower-case hexadecimal digit
abbrev pub hexadecimal_digit : ℕ → ℕ → List ℕ
hexadecimal_digit w low = digit_glyph false (bits w low 4) ∷ []

-- a word as a number: `.word 0x` and four digits
unfoldable pub word_text : ℕ → List ℕ
word_text w =
    codes ".word 0x" ++ hexadecimal_digit w 12 ++ hexadecimal_digit w 8 ++ hexadecimal_digit w 4 ++ hexadecimal_digit w 0

-- a word's text under a side-set rule: its reading's, where that can be written and its word is this very one
unfoldable pub spelled : ℕ → SideRule → List ℕ
spelled w rule =
    let op = reading_of w rule in
    if has_text op.act && word_of op rule == w then op_text op else word_text w

-- an instruction is written to this word: it fits, pioasm can write it, and this is its word
pub record IsWritten (op : Op) (word : ℕ) (rule : SideRule) : Type 0 where
  pub fits : OpFits op rule
  pub writable : IsTrue (has_text op.act)
  pub is_its_word : word_of op rule ≡ word

-- a text is the word's: that of an instruction that is written to it, and the number exactly where there is none
abbrev pub IsTextOf : ℕ → SideRule → List ℕ → Type 0
IsTextOf word rule text =
    ((op : Op) × (IsWritten op word rule × (text ≡ op_text op))) ⊎
    (((op : Op) → IsWritten op word rule → ⊥) × (text ≡ word_text word))
