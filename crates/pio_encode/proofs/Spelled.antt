-- Where no instruction is written to a word.
use Rattle.std.proofs.Common.{◌≡◌, ◌≢◌, ℕ, false, sym, ◌∙◌}
use Rattle.pio_encode.specs.declared.op.Op.{Op}
use Rattle.pio_encode.specs.declared.rule.SideRule.{SideRule}
use Rattle.pio_encode.specs.Word.{reading_of, word_of}
use Rattle.pio_encode.specs.Spelling.{has_text, IsWritten}
use Rattle.pio_encode.proofs.RoundTrip.{read_back}

-- only a word's reading is written to it
only_reading :
    (op other : Op) (word : ℕ) (rule : SideRule) → op ≡ reading_of word rule → IsWritten other word rule → other ≡ op
only_reading op other word rule e w = sym (read_back other rule w.fits) ∙ rw w.is_its_word (sym e)

-- not where pioasm cannot write the reading
pub not_writable :
    (op : Op) (word : ℕ) (rule : SideRule) → op ≡ reading_of word rule → has_text op.act ≡ false →
    (other : Op) → IsWritten other word rule → ⊥
not_writable op word rule e h other w =
    let same : other ≡ op = only_reading op other word rule e w in
    let writable = w.writable in
    let back : has_text other.act ≡ false = rw same h in cc

-- nor where the reading's word is another one
pub not_its_word :
    (op : Op) (word : ℕ) (rule : SideRule) → op ≡ reading_of word rule → word_of op rule ≢ word →
    (other : Op) → IsWritten other word rule → ⊥
not_its_word op word rule e n other w =
    let same : other ≡ op = only_reading op other word rule e w in
    n (rw (← same) w.is_its_word)
