-- The lines of words, one at a time.
use Rattle.std.proofs.Common.{◌≡◌, ℕ, ◌+◌, ◌<◌, ◌≤◌, List, [], ◌++◌, length, drop, get_or, ap, ◌∙◌}
use Rattle.std.proofs.lemmas.List.{at_drop_more, at_drop_all}
use Rattle.pio_encode.specs.declared.rule.SideRule.{SideRule}
use Rattle.word_file.specs.Listing.{word_line, lines_from}

-- the lines from a place on are its own and those after it
pub lines-turn : (rule : SideRule) (words : List ℕ) (place w : ℕ) → place < length words → w ≡ get_or words place 0 → lines_from rule place (drop place words) ≡ word_line rule place w ++ lines_from rule (place + 1) (drop (place + 1) words)
lines-turn rule words place w lt e =
    at_drop_more (lines_from rule place) words place 0 lt ∙ ap (λ x. word_line rule place x ++ lines_from rule (place + 1) (drop (place + 1) words)) (let s : get_or words place 0 ≡ w = cc in s)

-- after the last place there are none
pub lines-none : (rule : SideRule) (words : List ℕ) (place : ℕ) → length words ≤ place → lines_from rule place (drop place words) ≡ []
lines-none rule words place le = at_drop_all (lines_from rule place) words place le
