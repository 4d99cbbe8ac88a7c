-- Why bytes aren't the text of a table.
--   code_of          the code of a kind
--   TableRefusal     a fault with its line
--   told             the fault that a call returns
use Rattle.std.specs.Prelude.{ℕ, Option, Some, None, List, codes}
use Rattle.span_texts.specs.declared.fault.TableKind.{TableKind}
use Rattle.span_texts.specs.declared.fault.TableKind.TheVariants.{BadLine, Range, Order, NoEnd}
use Rattle.span_texts.specs.declared.fault.TableFault.{TableFault}
use Rattle.span_texts.specs.declared.fault.TableFault.TheVariants.{Memory, At}

-- the code of a kind (choice of this profile)
abbrev pub code_of : TableKind → List ℕ
code_of BadLine = codes "B1"
code_of Range = codes "B2"
code_of Order = codes "B3"
code_of NoEnd = codes "B4"

-- where a file is faulty, and why
pub record TableRefusal : Type 0 where
  pub line : ℕ
  pub kind : TableKind

-- the fault that is returned, nothing where memory ran out
abbrev pub told : TableFault → Option TableRefusal
told Memory = None
told (At line kind) = Some (record { line = line; kind = kind })
