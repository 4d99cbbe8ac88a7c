-- What a clause sees of a program without where it lies in memory.
use Rattle.std.specs.Prelude.{ℕ, List, Option}
use Rattle.pio_encode.specs.declared.rule.SideRule.{SideRule}
use Rattle.pio_assemble.specs.declared.program.Program.{Program}
use Rattle.pio_assemble.specs.declared.symbols.ProgramSymbol.{ProgramSymbol}

-- an assembled program (Raspberry Pi Pico C/C++ SDK, section 3.3)
pub record Assembled : Type 0 where
  pub name : List ℕ
  pub words : List ℕ
  pub origin : Option ℕ
  pub side : SideRule
  pub wrap_bottom : ℕ
  pub wrap_top : ℕ
  pub symbols : List ProgramSymbol

-- a program as its names and numbers
abbrev pub assembled_of : Program → Assembled
assembled_of p =
    record { name = p.name; words = p.words.items; origin = p.origin; side = p.side; wrap_bottom = p.wrap_bottom; wrap_top = p.wrap_top; symbols = p.symbols }
