-- The codes of a word file's faults.
use Rattle.std.specs.Prelude.{ℕ, List, codes}
use Rattle.word_file.specs.declared.fault.WordKind.{WordKind}
use Rattle.word_file.specs.declared.fault.WordKind.TheVariants.{BadWord, TooMany}

-- the code of a kind (choice of this profile)
abbrev pub code_of : WordKind → List ℕ
code_of BadWord = codes "H1"
code_of TooMany = codes "H2"
