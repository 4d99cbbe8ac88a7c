-- The codes of a configuration's faults, and the paths of its keys (choice of this profile).
--   code_of      the code of a kind
--   kind_text    the code with what a message says after it
--   section_path   the path of a table
--   key_path     the path of a key of a table
use Rattle.std.specs.Prelude.{ℕ, ◌++◌, List, codes, decimal}
use Rattle.block_config.specs.declared.fault.ConfigKind.{ConfigKind}
use Rattle.block_config.specs.declared.fault.ConfigKind.TheVariants.{NotToml, UnknownKey, WrongType, Range, NoProgram, NoLabel, Overlap, DoesNotFit, MachineTwice, BothJoins, Divider, Many, Missing, Excluded}
use Rattle.block_config.specs.declared.path.Section.{Section}
use Rattle.block_config.specs.declared.path.Section.TheVariants.{Load, Machine, Pins, Span, Assume}

-- the code of a kind
abbrev pub code_of : ConfigKind → List ℕ
code_of NotToml = codes "C1"
code_of UnknownKey = codes "C2"
code_of WrongType = codes "C3"
code_of Range = codes "C4"
code_of NoProgram = codes "C5"
code_of NoLabel = codes "C6"
code_of (Overlap address) = codes "C7"
code_of DoesNotFit = codes "C8"
code_of MachineTwice = codes "C9"
code_of BothJoins = codes "C10"
code_of Divider = codes "C11"
code_of Many = codes "C12"
code_of Missing = codes "C13"
code_of Excluded = codes "C14"

-- the code, and after an overlap its address
abbrev pub kind_text : ConfigKind → List ℕ
kind_text (Overlap address) = codes "C7 " ++ decimal address
kind_text kind = code_of kind

-- the path of a table: those of an array have their place, counted from 0
abbrev pub section_path : Section → List ℕ
section_path (Load place) = codes "load[" ++ decimal place ++ codes "]"
section_path (Machine place) = codes "machine[" ++ decimal place ++ codes "]"
section_path Pins = codes "pins"
section_path (Span place) = codes "span[" ++ decimal place ++ codes "]"
section_path (Assume span place) = codes "span[" ++ decimal span ++ codes "].assume[" ++ decimal place ++ codes "]"

-- the path of a key: its table's, a dot and its name
abbrev pub key_path : Section → List ℕ → List ℕ
key_path section key = section_path section ++ codes "." ++ key
