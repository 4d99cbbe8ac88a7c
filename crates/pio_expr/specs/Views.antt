-- How the values of this crate's private types are seen: words of private clauses.
use Rattle.std.specs.Prelude.{ℕ, List, map, string_bytes}
use Rattle.std.specs.Borrow.{Bor}
use Rattle.std.specs.declared.string.String.{String}
use Rattle.std.specs.declared.alloc.Global.{Global}
use Rattle.pio_expr.specs.declared.symbol.Symbol.{Symbol}
use Rattle.pio_expr.specs.Values.{Symbols}

-- the symbols in a map by name
abbrev pub named_in : List (String Global × Symbol) → Symbols
named_in entries = map (λ e. (string_bytes e.0, e.1)) entries

-- a place with the symbol that is borrowed there
abbrev pub symbol_seen : ℕ × Bor Symbol → ℕ × Symbol
symbol_seen s = (s.0, s.1.now)
