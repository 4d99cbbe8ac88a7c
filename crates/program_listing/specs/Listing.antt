-- The text of a listing: what `asm` says of each program (choice of this profile).
--     program_line p       its name, its origin, its side-set rule and its wrap
--     public_lines ss      a line for each symbol that the source calls public
--     program_text p       the line of the program, those of its public symbols, those of its words
--     listing_text ps      the programs one after the other
use Rattle.std.specs.Prelude.{ℕ, Bool, true, false, Option, Some, None, List, [], ◌++◌, codes, decimal, flat_map}
use Rattle.std.specs.List.{filter}
use Rattle.std.specs.Fmt.{signed_decimal}
use Rattle.pio_encode.specs.declared.rule.SideRule.{SideRule}
use Rattle.pio_assemble.specs.declared.symbols.ProgramSymbol.{ProgramSymbol}
use Rattle.pio_assemble.specs.Program.{Assembled}
use Rattle.word_file.specs.Listing.{word_lines}

-- an origin: its address in decimal digits, or `none` (choice of this profile)
abbrev pub origin_text : Option ℕ → List ℕ
origin_text None = codes "none"
origin_text (Some address) = decimal address

-- ` opt`, where the rule has an enable bit (choice of this profile)
abbrev pub opt_text : Bool → List ℕ
opt_text true = codes " opt"
opt_text false = []

-- ` pindirs`, where side-set writes pin directions (choice of this profile)
abbrev pub pindirs_text : Bool → List ℕ
pindirs_text true = codes " pindirs"
pindirs_text false = []

-- a side-set rule: its bits without the enable bit, then `opt` and `pindirs` where they are (choice of this profile)
abbrev pub side_text : SideRule → List ℕ
side_text rule = decimal rule.bits ++ opt_text rule.opt ++ pindirs_text rule.pindirs

-- the line of a program: its name, origin, side-set rule, and wrap (choice of this profile)
unfoldable pub program_line : Assembled → List ℕ
program_line p =
    codes "program " ++ p.name ++ codes " origin " ++ origin_text p.origin ++ codes " side " ++ side_text p.side
    ++ codes " wrap " ++ decimal p.wrap_bottom ++ codes " " ++ decimal p.wrap_top ++ codes "\n"

-- the line of a public symbol: its name, and its value in decimal digits with its sign (choice of this profile)
unfoldable pub public_line : ProgramSymbol → List ℕ
public_line s = codes "public " ++ s.name ++ codes " " ++ signed_decimal s.value ++ codes "\n"

-- the lines of the public symbols, in the order of the source (choice of this profile)
abbrev pub public_lines : List ProgramSymbol → List ℕ
public_lines symbols = flat_map public_line (filter (λ s. s.public) symbols)

-- the text of a program: its line, its public symbols, its words under its own rule (choice of this profile)
abbrev pub program_text : Assembled → List ℕ
program_text p = program_line p ++ public_lines p.symbols ++ word_lines p.side p.words

-- the text of programs, one after the other (choice of this profile)
abbrev pub listing_text : List Assembled → List ℕ
listing_text programs = flat_map program_text programs
