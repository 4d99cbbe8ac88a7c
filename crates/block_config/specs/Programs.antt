-- The programs that a configuration names (choice of this profile).
--   Loaded       a program with its address
--   find_loaded  the load of a program's name
--   label_of     the place of a label in its program
use Rattle.std.specs.Prelude.{ℕ, ℤ, pos, negsuc, nat_lt, if◌then◌else◌, Option, Some, None, List, length}
use Rattle.std.specs.List.{find}
use Rattle.std.specs.Str.{bytes_eq}
use Rattle.pio_assemble.specs.declared.symbols.ProgramSymbol.{ProgramSymbol}
use Rattle.pio_assemble.specs.Program.{Assembled}

-- a program that is loaded at an address
pub record Loaded : Type 0 where
  pub program : Assembled
  pub address : ℕ

-- the load of a program's name
abbrev pub find_loaded : List ℕ → List Loaded → Option Loaded
find_loaded name loads = find (λ l. bytes_eq l.program.name name) loads

-- a number that is the place of a word
abbrev pub place_in : List ℕ → ℤ → Option ℕ
place_in words (pos n) = if nat_lt n (length words) then Some n else None
place_in words (negsuc n) = None

-- a symbol that a label made, and that comes before a word
abbrev pub symbol_place : List ℕ → ProgramSymbol → Option ℕ
symbol_place words s = if s.is_label then place_in words s.value else None

-- the place of a symbol, if there is one
abbrev pub place_of : List ℕ → Option ProgramSymbol → Option ℕ
place_of words None = None
place_of words (Some s) = symbol_place words s

-- the place of a label
abbrev pub label_of : Assembled → List ℕ → Option ℕ
label_of p name = place_of p.words (find (λ s. bytes_eq s.name name) p.symbols)
