-- The lines of public symbols, one symbol at a time.
use Rattle.std.proofs.Common.{◌≡◌, ℕ, ◌+◌, ◌<◌, true, false, cond, Option, List, ◌∷◌, ◌++◌, length, drop, get_or, flat_map, sym, ap, ◌∙◌}
use Rattle.std.specs.List.{filter}
use Rattle.std.proofs.lemmas.List.{at_drop_more}
use Rattle.pio_assemble.specs.declared.symbols.ProgramSymbol.{ProgramSymbol}
use Rattle.pio_edge.specs.Puts.{Going}
use Rattle.program_listing.specs.Listing.{public_line, public_lines}

-- the public ones
abbrev listed : List ProgramSymbol → List ProgramSymbol
listed symbols = filter (λ s. s.public) symbols

-- the lines from a public symbol on are its own and those after it
pub public_lines-turn : (symbols : List ProgramSymbol) (place : ℕ) (s : ProgramSymbol) → place < length symbols → s ≡ get_or symbols place s → s.public ≡ true → public_lines (drop place symbols) ≡ public_line s ++ public_lines (drop (place + 1) symbols)
public_lines-turn symbols place s lt e is =
    let rest = drop (place + 1) symbols in
    at_drop_more public_lines symbols place s lt
    ∙ ap (λ x. public_lines (x ∷ rest)) (sym e)
    ∙ ap (λ b. flat_map public_line (cond b (s ∷ listed rest) (listed rest))) is

-- the lines from another symbol on are those after it
pub public_lines-skip : (symbols : List ProgramSymbol) (place : ℕ) (s : ProgramSymbol) → place < length symbols → s ≡ get_or symbols place s → s.public ≡ false → public_lines (drop place symbols) ≡ public_lines (drop (place + 1) symbols)
public_lines-skip symbols place s lt e is =
    let rest = drop (place + 1) symbols in
    at_drop_more public_lines symbols place s lt
    ∙ ap (λ x. public_lines (x ∷ rest)) (sym e)
    ∙ ap (λ b. flat_map public_line (cond b (s ∷ listed rest) (listed rest))) is

-- where nothing is put, what is left is what was left
pub going_skips : (o m : Option (List ℕ)) (whole rest later : List ℕ) → Going o m whole rest → rest ≡ later → Going o m whole later
going_skips o m whole rest later g e = record { done = g.done; taken = g.taken; all = ap (λ x. g.done ++ x) (sym e) ∙ g.all }
