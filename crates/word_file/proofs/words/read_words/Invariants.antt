use Rattle.std.proofs.Common.{◌≡◌, ◌+◌, ◌≤◌, length}
use Rattle.std.specs.Prelude.{option_copied}
use Rattle.byte_lines.specs.Lines.{lines_left, left_size}
use Rattle.word_file.specs.Reading.{word_file}
use Rattle.word_file.proofs.LineByLine.{going_from}
use Rattle.word_file.proofs.words.read_words.Given as goal

-- the words so far, and what the lines that are left add to them
abbrev pub invariant-loop-rest : goal.invariant-loop-rest
invariant-loop-rest l = record {
  whole : going_from l.words.items l.number (length l.words.items) (lines_left (option_copied l.rest)) ≡ word_file l.bytes;
  few : length l.words.items ≤ 32;
  counted : l.number + left_size (option_copied l.rest) ≤ 262146;
}

abbrev pub decreases-loop-rest : goal.decreases-loop-rest
decreases-loop-rest l = left_size (option_copied l.rest)
