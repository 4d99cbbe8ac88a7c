-- Why a source has no tokens, and how it is named in a message.
use Rattle.std.specs.Prelude.{ℕ, List, Option, Some, None, codes}
use Rattle.pio_lex.specs.declared.fault.LexFault.{LexFault}
use Rattle.pio_lex.specs.declared.fault.LexFault.TheVariants.{Memory, Found}
use Rattle.pio_lex.specs.declared.fault.LexKind.{LexKind}
use Rattle.pio_lex.specs.declared.fault.LexKind.TheVariants.{BadByte, BadNumber, OpenComment, OpenBlock}

-- the line of the first fault, counted from 1, and what is wrong there
pub record LexRefusal : Type 0 where
  pub line : ℕ
  pub kind : LexKind

-- what a returned fault tells: nothing where memory ran out
abbrev pub told : LexFault → Option LexRefusal
told Memory = None
told (Found line kind) = Some (record { line = line; kind = kind })

-- the code of a fault (choice of this profile)
abbrev pub code_of : LexKind → List ℕ
code_of BadByte = codes "L1"
code_of BadNumber = codes "L2"
code_of OpenComment = codes "L3"
code_of OpenBlock = codes "L4"
