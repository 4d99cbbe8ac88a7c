use Rattle.std.proofs.Common.{ℕ, List, length, ap, ◌∙◌, arith}
use Rattle.byte_lines.specs.Lines.{lines_of}
use Rattle.word_file.specs.Reading.{word_file}
use Rattle.word_file.proofs.LineByLine.{going_from, with_front-nil}
use Rattle.word_file.proofs.words.read_words.Goals as goal

pub loop-rest-init : goal.loop-rest-init
unfolding word_file
loop-rest-init c =
    let empty = c.new-words.ensures in
    record {
      whole = ap (λ (ws : List ℕ). going_from ws 1 (length ws) (lines_of c.args.bytes.now)) empty ∙ with_front-nil _;
      few = rw empty (omega arith);
      counted = omega arith;
    }
