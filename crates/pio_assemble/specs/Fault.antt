-- The message of a fault of a source (choice of this profile).
--   code_of         the code of a fault
--   quantity_text   the word for a number of a statement
--   kind_text       the code, and after it the name, or the number's word and its value
use Rattle.std.specs.Prelude.{ℕ, ◌++◌, List, codes}
use Rattle.std.specs.Fmt.{signed_decimal}
use Rattle.pio_assemble.specs.declared.quantity.Quantity.{Quantity}
use Rattle.pio_assemble.specs.declared.quantity.Quantity.TheVariants as quantity
use Rattle.pio_assemble.specs.declared.fault.SourceKind.{SourceKind}
use Rattle.pio_assemble.specs.declared.fault.SourceKind.TheVariants.{BadByte, BadNumber, OpenComment, OpenBlock, Syntax, Outside, Twice, Late, Duplicate, TooLong, Range, SideMissing, SideUnasked, EmptyProgram, Directive, Many, WrapPlace, Unknown, Cycle, DivZero, Overflow, TooDeep, Ambiguous}

-- the code of a fault
abbrev pub code_of : SourceKind → List ℕ
code_of BadByte = codes "L1"
code_of BadNumber = codes "L2"
code_of OpenComment = codes "L3"
code_of OpenBlock = codes "L4"
code_of Syntax = codes "S1"
code_of Outside = codes "S2"
code_of Twice = codes "S3"
code_of Late = codes "S4"
code_of (Duplicate name) = codes "S5"
code_of TooLong = codes "S6"
code_of (Range what value) = codes "S7"
code_of SideMissing = codes "S8"
code_of SideUnasked = codes "S9"
code_of EmptyProgram = codes "S10"
code_of Directive = codes "S11"
code_of Many = codes "S12"
code_of WrapPlace = codes "S13"
code_of (Unknown name) = codes "V1"
code_of (Cycle name) = codes "V2"
code_of DivZero = codes "V3"
code_of Overflow = codes "V4"
code_of TooDeep = codes "V5"
code_of Ambiguous = codes "V6"

-- the word for a number of a statement
abbrev pub quantity_text : Quantity → List ℕ
quantity_text quantity.Jmp = codes "jmp"
quantity_text quantity.Polarity = codes "polarity"
quantity_text quantity.Index = codes "index"
quantity_text quantity.Count = codes "count"
quantity_text quantity.Data = codes "data"
quantity_text quantity.Side = codes "side"
quantity_text quantity.Delay = codes "delay"
quantity_text quantity.Origin = codes "origin"
quantity_text quantity.SideSet = codes "side_set"
quantity_text quantity.Word = codes "word"
quantity_text quantity.PioVersion = codes "pio_version"

-- the code, and after it the name, or the number's word and its value
abbrev pub kind_text : SourceKind → List ℕ
kind_text (Duplicate name) = codes "S5 " ++ name
kind_text (Range what value) = codes "S7 " ++ quantity_text what ++ codes " " ++ signed_decimal value
kind_text (Unknown name) = codes "V1 " ++ name
kind_text (Cycle name) = codes "V2 " ++ name
kind_text other = code_of other
