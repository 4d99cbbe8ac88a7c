-- A statement that begins no program leaves the program's name, and the names of those before it.
use Rattle.std.proofs.Common.{◌≡◌, ℕ, ◌==◌, ◌∷◌, [], ◌++◌, Bool, true, false, List, Option, Some, None, Result, Ok, Err, refl, if◌then◌else◌, length}
use Rattle.pio_expr.specs.Values.{Scope, value_of_name}
use Rattle.pio_statement.specs.declared.statement.Code.{Code}
use Rattle.pio_statement.specs.declared.statement.Statement.{Statement}
use Rattle.pio_statement.specs.declared.statement.Statement.TheVariants as statement
use Rattle.pio_assemble.specs.declared.before.Before.{Before}
use Rattle.pio_assemble.specs.declared.fault.SourceKind.{SourceKind}
use Rattle.pio_assemble.specs.declared.fault.SourceKind.TheVariants.{TooLong}
use Rattle.answers.specs.Answers.{◌>>=◌}
use Rattle.pio_assemble.specs.Checks.{statement_fault, program_fault, after, with_name}
use Rattle.pio_assemble.specs.Drafts.{Draft, drafted, with_word, with_symbol, coded, labelled}
use Rattle.pio_assemble.specs.Operands.{word_of_code, number_in, valued}
use Rattle.pio_assemble.specs.declared.quantity.Quantity.TheVariants as quantity
use Rattle.setup_keys.specs.Rule.{most_bits}
use Rattle.pio_assemble.specs.Rules.{rule_of}
use Rattle.pio_assemble.specs.Source.{program_by}

-- the name of a draft, or where there is none, this one
abbrev pub name_or : Option (List ℕ) → Result Draft SourceKind → Option (List ℕ)
name_or name (Ok d) = d.name
name_or name (Err kind) = name

name_after : {X : Type 0} (name : Option (List ℕ)) (r : Result X SourceKind) (next : X → Result Draft SourceKind) → ((x : X) → name_or name (next x) ≡ name) → name_or name (r >>= next) ≡ name
name_after name (Ok x) next h = h x
name_after name (Err kind) next h = refl

name_with_word : (d : Draft) (word : ℕ) → name_or d.name (with_word d word) ≡ d.name
name_with_word d word = by (length d.words == 32) where
  by : (full : Bool) → name_or d.name (if full then Err TooLong else Ok (record d { words = d.words ++ word ∷ [] })) ≡ d.name
  by true = refl
  by false = refl

name_coded : (scope : Scope) (d : Draft) (code : Code) → name_or d.name (coded scope d code) ≡ d.name
name_coded scope d code = name_after d.name (word_of_code scope d.side code) (with_word d) (name_with_word d)

-- a statement leaves the program's name
pub name_kept : (scope : Scope) (d : Draft) (s : Statement) → name_or d.name (drafted scope d s) ≡ d.name
unfolding drafted
name_kept scope d statement.Nothing = refl
name_kept scope d (statement.Program name) = refl
name_kept scope d (statement.Define public name items) = name_after d.name (valued (value_of_name scope name)) (λ v. Ok (with_symbol d (record { name = name; value = v; public = public; is_label = false }))) (λ v. refl)
name_kept scope d (statement.Origin address) = name_after d.name (number_in scope quantity.Origin 0 31 address) (λ n. Ok (record d { origin = Some n })) (λ n. refl)
name_kept scope d (statement.SideSet bits opt pindirs) = name_after d.name (number_in scope quantity.SideSet 0 (most_bits opt) bits) (λ n. Ok (record d { side = rule_of n opt pindirs })) (λ n. refl)
name_kept scope d statement.WrapTarget = refl
name_kept scope d statement.Wrap = refl
name_kept scope d statement.LangOpt = refl
name_kept scope d (statement.PioVersion version) = name_after d.name (number_in scope quantity.PioVersion 0 0 version) (λ n. Ok d) (λ n. refl)
name_kept scope d (statement.Label public name None) = refl
name_kept scope d (statement.Label public name (Some code)) = name_coded scope (labelled d public name) code
name_kept scope d (statement.Code code) = name_coded scope d code

-- the programs before the next line
pub programs_kept : (b : Before) (s : Statement) → program_by s ≡ None → (after b s).programs ≡ b.programs
unfolding after
programs_kept b statement.Nothing h = refl
programs_kept b (statement.Program name) h = cc
programs_kept b (statement.Define public name items) h = refl
programs_kept b (statement.Origin address) h = refl
programs_kept b (statement.SideSet bits opt pindirs) h = refl
programs_kept b statement.WrapTarget h = refl
programs_kept b statement.Wrap h = refl
programs_kept b statement.LangOpt h = refl
programs_kept b (statement.PioVersion version) h = refl
programs_kept b (statement.Label public name code) h = refl
programs_kept b (statement.Code code) h = refl

-- a program that begins is one more, and has its own fault
pub record Begins (b : Before) (more : Bool) (s : Statement) (name : List ℕ) : Type 0 where
  pub programs : (after b s).programs ≡ with_name b.programs name
  pub fault : statement_fault b more s ≡ program_fault b more name

pub begins_by : (b : Before) (more : Bool) (s : Statement) (name : List ℕ) → program_by s ≡ Some name → Begins b more s name
unfolding after statement_fault
begins_by b more statement.Nothing name h = cc
begins_by b more (statement.Program other) name h =
    let same : other ≡ name = cc in record { programs = rw same refl; fault = rw same refl }
begins_by b more (statement.Define public other items) name h = cc
begins_by b more (statement.Origin address) name h = cc
begins_by b more (statement.SideSet bits opt pindirs) name h = cc
begins_by b more statement.WrapTarget name h = cc
begins_by b more statement.Wrap name h = cc
begins_by b more statement.LangOpt name h = cc
begins_by b more (statement.PioVersion version) name h = cc
begins_by b more (statement.Label public other code) name h = cc
begins_by b more (statement.Code code) name h = cc
