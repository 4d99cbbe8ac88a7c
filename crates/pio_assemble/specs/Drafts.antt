-- A program as far as its lines are read (Pico SDK manual, section 3.3).
--   Draft         the program so far; before the first one it has no name, and is none
--   drafted       what a statement adds to it
--   finished      the program after its last line
use Rattle.std.specs.Prelude.{ℕ, pos, ◌-◌, ◌==◌, ◌≤◌, min, Bool, true, false, if◌then◌else◌, unwrap_or, List, [], ◌∷◌, ◌++◌, length, Option, Some, None, Result, Ok, Err}
use Rattle.pio_encode.specs.declared.rule.SideRule.{SideRule}
use Rattle.pio_expr.specs.declared.expr.Item.{Item}
use Rattle.pio_expr.specs.Values.{Scope, value_of_name}
use Rattle.pio_statement.specs.declared.statement.Code.{Code}
use Rattle.pio_statement.specs.declared.statement.Statement.{Statement}
use Rattle.pio_statement.specs.declared.statement.Statement.TheVariants as statement
use Rattle.pio_assemble.specs.declared.fault.SourceKind.{SourceKind}
use Rattle.pio_assemble.specs.declared.fault.SourceKind.TheVariants.{TooLong}
use Rattle.pio_assemble.specs.declared.quantity.Quantity.TheVariants as quantity
use Rattle.pio_assemble.specs.declared.symbols.ProgramSymbol.{ProgramSymbol}
use Rattle.answers.specs.Answers.{◌>>=◌}
use Rattle.pio_assemble.specs.Operands.{number_in, valued, word_of_code}
use Rattle.pio_assemble.specs.declared.program.Program.{Program}
use Rattle.pio_assemble.specs.Program.{Assembled, assembled_of}
use Rattle.setup_keys.specs.Rule.{most_bits}
use Rattle.pio_assemble.specs.Rules.{rule_of, no_side_set}

-- a program as far as it is read
pub record Draft : Type 0 where
  -- none before the first program
  pub name : Option (List ℕ)
  pub words : List ℕ
  pub origin : Option ℕ
  pub side : SideRule
  pub wrap_bottom : ℕ
  -- none so far, which is the last word
  pub wrap_top : Option ℕ
  pub symbols : List ProgramSymbol

-- a program without lines; and what comes before the first one
abbrev pub begun : Option (List ℕ) → Draft
begun name = record { name = name; words = []; origin = None; side = no_side_set; wrap_bottom = 0; wrap_top = None; symbols = [] }

-- one symbol more
abbrev pub with_symbol : Draft → ProgramSymbol → Draft
with_symbol d s = record d { symbols = d.symbols ++ s ∷ [] }

-- a define: its value is that of its name
abbrev pub defined : Scope → Draft → Bool → List ℕ → Result Draft SourceKind
defined scope d public name = do
  value ← valued (value_of_name scope name)
  Ok (with_symbol d (record { name = name; value = value; public = public; is_label = false }))

-- a label: the number of words before it
abbrev pub labelled : Draft → Bool → List ℕ → Draft
labelled d public name = with_symbol d (record { name = name; value = pos (length d.words); public = public; is_label = true })

-- one word more; the 33rd has no room
abbrev pub with_word : Draft → ℕ → Result Draft SourceKind
with_word d word = if length d.words == 32 then Err TooLong else Ok (record d { words = d.words ++ word ∷ [] })

-- code: one word more
abbrev pub coded : Scope → Draft → Code → Result Draft SourceKind
coded scope d code = word_of_code scope d.side code >>= with_word d

-- code after a label, where there is some
abbrev pub some_coded : Scope → Draft → Option Code → Result Draft SourceKind
some_coded scope d None = Ok d
some_coded scope d (Some code) = coded scope d code

-- the side-set rule
abbrev pub ruled : Scope → Draft → List Item → Bool → Bool → Result Draft SourceKind
ruled scope d bits opt pindirs = do
  count ← number_in scope quantity.SideSet 0 (most_bits opt) bits
  Ok (record d { side = rule_of count opt pindirs })

-- What a statement adds: `.wrap_target` is the next word, `.wrap` the last word so far.
unfoldable pub drafted : Scope → Draft → Statement → Result Draft SourceKind
drafted scope d (statement.Define public name items) = defined scope d public name
drafted scope d (statement.Origin address) = do
  origin ← number_in scope quantity.Origin 0 31 address
  Ok (record d { origin = Some origin })
drafted scope d (statement.SideSet bits opt pindirs) = ruled scope d bits opt pindirs
drafted scope d statement.WrapTarget = Ok (record d { wrap_bottom = length d.words })
drafted scope d statement.Wrap = Ok (record d { wrap_top = Some (length d.words - 1) })
drafted scope d (statement.PioVersion version) = do
  number ← number_in scope quantity.PioVersion 0 0 version
  Ok d
drafted scope d (statement.Label public name code) = some_coded scope (labelled d public name) code
drafted scope d (statement.Code code) = coded scope d code
drafted scope d _ = Ok d

-- the program after its last line: it wraps after its last word where it has no `.wrap`, and to no word after that
abbrev pub program_of : List ℕ → Draft → Assembled
program_of name d = record {
  name = name;
  words = d.words;
  origin = d.origin;
  side = d.side;
  wrap_bottom = min d.wrap_bottom (length d.words - 1);
  wrap_top = unwrap_or d.wrap_top (length d.words - 1);
  symbols = d.symbols;
}

-- the program of this name, if there is one, where it has a word
abbrev pub finished_by : Option (List ℕ) → Draft → List Assembled
finished_by None d = []
finished_by (Some name) d = if length d.words == 0 then [] else program_of name d ∷ []

-- the program, if it has a name and a word
abbrev pub finished : Draft → List Assembled
finished d = finished_by d.name d

-- a program that was returned, or none
abbrev pub one_or_none : Option Program → List Assembled
one_or_none None = []
one_or_none (Some p) = assembled_of p ∷ []

-- a draft has at most 32 words, an address in memory, and wraps among its words
pub record IsInMemory (ws : List ℕ) (address : Option ℕ) (bottom : ℕ) (top : Option ℕ) : Type 0 where
  pub words : length ws ≤ 32
  pub origin : unwrap_or address 0 ≤ 31
  pub wrap_bottom : bottom ≤ length ws
  pub wrap_top : unwrap_or top 0 ≤ length ws - 1
