-- The symbols of statements without faults: none is a second of its name, and a program has at most 32 words.
use Rattle.std.proofs.Common.{◌≡◌, ℕ, ◌+◌, ◌≤◌, ◌∷◌, [], ◌++◌, Bool, false, List, map, Option, Some, None, refl, sym, ap, ◌∙◌, arith, nat_le}
use Rattle.std.proofs.lemmas.Bool.{or_parts, leb-false}
use Rattle.std.proofs.lemmas.List.{map-append}
use Rattle.std.specs.Str.{bytes_eq}
use Rattle.pio_expr.specs.declared.symbol.Symbol.{Symbol}
use Rattle.pio_expr.specs.declared.symbol.Symbol.TheVariants as symbol
use Rattle.pio_expr.specs.Values.{Scope, Symbols, found_in, present, with_symbol}
use Rattle.pio_statement.specs.declared.statement.Code.{Code}
use Rattle.pio_statement.specs.declared.statement.Code.TheVariants as code
use Rattle.pio_statement.specs.declared.statement.Statement.{Statement}
use Rattle.pio_statement.specs.declared.statement.Statement.TheVariants as statement
use Rattle.pio_assemble.specs.declared.before.Before.{Before}
use Rattle.pio_assemble.specs.declared.fault.SourceKind.TheVariants.{Duplicate, Many, TooLong}
use Rattle.pio_assemble.specs.Checks.{first_fault, statement_fault, symbol_fault, code_fault, side_fault, room_fault, has_side, duplicate, fault_if, outside, after, is_among, with_name, ◌<|>◌}
use Rattle.pio_assemble.specs.Lines.{has_word}
use Rattle.pio_assemble.specs.Manual.{NumberedStatement, manual_scope_by, manual_words_by, manual_scope_from}
use Rattle.pio_assemble.specs.Source.{program_by, scope_by, words_by, scope_from, with_new}
use Rattle.pio_assemble.proofs.Faultless.{no_fault, no_first, no_second, no_cause}
use Rattle.pio_assemble.proofs.ManualLines.{lines_by}

-- the names of symbols
abbrev pub names_in : Symbols → List (List ℕ)
names_in symbols = map (λ s. s.0) symbols

-- a name that is not among those of symbols is not found there
not_found : (place : ℕ) (symbols : Symbols) (name : List ℕ) → is_among (names_in symbols) name ≡ false → found_in place symbols name ≡ None
unfolding found_in
not_found place [] name h = refl
not_found place (s ∷ symbols) name h =
    let both = or_parts (bytes_eq name s.0) (is_among (names_in symbols) name) h in
    rw both.0 (not_found (place + 1) symbols name both.1)

-- what comes before a line is what a scope and a number of words have
pub record IsScope (b : Before) (scope : Scope) (words : ℕ) : Type 0 where
  pub names : b.names ≡ names_in (present scope scope.program)
  pub count : words ≡ b.words
  pub most : words ≤ 32

-- a symbol without a fault is new, and is added
record IsAdded (b : Before) (scope : Scope) (name : List ℕ) (is : Symbol) : Type 0 where
  same : with_new scope name is ≡ with_symbol scope name is
  names : with_name b.names name ≡ names_in (present (with_symbol scope name is) (with_symbol scope name is).program)

-- one name more is one symbol more
one_more : (names : List (List ℕ)) (symbols : Symbols) (name : List ℕ) (is : Symbol) → names ≡ names_in symbols → is_among names name ≡ false → with_name names name ≡ names_in (symbols ++ (name, is) ∷ [])
one_more names symbols name is h new = rw new (ap (λ ns. ns ++ name ∷ []) h ∙ sym (map-append (λ s. s.0) symbols ((name, is) ∷ [])))

-- a symbol without a fault
added : (b : Before) (scope : Scope) (name : List ℕ) (is : Symbol) → b.names ≡ names_in (present scope scope.program) → symbol_fault b name ≡ None → IsAdded b scope name is
added b scope name is h fault = by scope.program h where
  new : is_among b.names name ≡ false
  new = no_cause (is_among b.names name) (Duplicate name) (no_first (duplicate b.names name) (fault_if (nat_le 1024 b.symbols) Many) fault)

  by : (program : Option Symbols) → b.names ≡ names_in (present scope program) → IsAdded b (record scope { program = program }) name is
  by None names =
      let none : found_in 0 scope.globals name ≡ None = not_found 0 scope.globals name (ap (λ ns. is_among ns name) (sym names) ∙ new) in
      record { same = rw none refl; names = one_more b.names scope.globals name is names new }
  by (Some symbols) names =
      let none : found_in 0 symbols name ≡ None = not_found 0 symbols name (ap (λ ns. is_among ns name) (sym names) ∙ new) in
      record { same = rw none refl; names = one_more b.names symbols name is names new }

-- a word without a fault has room
pub has_room : (b : Before) (c : Code) → code_fault b c ≡ None → b.words + 1 ≤ 32
has_room b (code.Word value) h = let less = leb-false 32 b.words (no_cause (nat_le 32 b.words) TooLong h) in omega arith
has_room b (code.Instruction i) h = let less = leb-false 32 b.words (no_cause (nat_le 32 b.words) TooLong (no_first (room_fault b) (side_fault b.side_set (has_side i.suffix)) h)) in omega arith

-- what a statement that begins no program and has no fault adds to a scope
record IsPassed (b : Before) (scope : Scope) (words : ℕ) (s : Statement) : Type 0 where
  scope_same : scope_by scope words s ≡ manual_scope_by scope words s
  words_same : words_by words s ≡ manual_words_by words s
  leaves : IsScope (after b s) (manual_scope_by scope words s) (manual_words_by words s)

-- a statement that begins no program and has no fault
passed : (b : Before) (more : Bool) (scope : Scope) (words : ℕ) (s : Statement) → program_by s ≡ None → statement_fault b more s ≡ None → IsScope b scope words → IsPassed b scope words s
unfolding after statement_fault
passed b more scope words statement.Nothing h fault k = record { scope_same = refl; words_same = refl; leaves = k }
passed b more scope words (statement.Program name) h fault k = cc
passed b more scope words (statement.Define public name items) h fault k =
    let it = added b scope name (symbol.Define items) k.names fault in
    record { scope_same = it.same; words_same = refl; leaves = record { names = it.names; count = k.count; most = k.most } }
passed b more scope words (statement.Origin address) h fault k = record { scope_same = refl; words_same = refl; leaves = record { names = k.names; count = k.count; most = k.most } }
passed b more scope words (statement.SideSet bits opt pindirs) h fault k = record { scope_same = refl; words_same = refl; leaves = record { names = k.names; count = k.count; most = k.most } }
passed b more scope words statement.WrapTarget h fault k = record { scope_same = refl; words_same = refl; leaves = record { names = k.names; count = k.count; most = k.most } }
passed b more scope words statement.Wrap h fault k = record { scope_same = refl; words_same = refl; leaves = record { names = k.names; count = k.count; most = k.most } }
passed b more scope words statement.LangOpt h fault k = record { scope_same = refl; words_same = refl; leaves = k }
passed b more scope words (statement.PioVersion version) h fault k = record { scope_same = refl; words_same = refl; leaves = k }
passed b more scope words (statement.Label public name None) h fault k =
    let inside = no_second (outside b) (symbol_fault b name <|> None) fault in
    let it = added b scope name (symbol.Label words) k.names (no_first (symbol_fault b name) None inside) in
    record { scope_same = it.same; words_same = omega (arith, k.most); leaves = record { names = it.names; count = ap (λ n. n + 0) k.count; most = omega (arith, k.most) } }
passed b more scope words (statement.Label public name (Some c)) h fault k =
    let inside = no_second (outside b) (symbol_fault b name <|> code_fault b c) fault in
    let it = added b scope name (symbol.Label words) k.names (no_first (symbol_fault b name) (code_fault b c) inside) in
    let room = has_room b c (no_second (symbol_fault b name) (code_fault b c) inside) in
    record { scope_same = it.same; words_same = omega (arith, room, k.count); leaves = record { names = it.names; count = ap (λ n. n + 1) k.count; most = omega (arith, room, k.count) } }
passed b more scope words (statement.Code c) h fault k =
    let room = has_room b c (no_second (outside b) (code_fault b c) fault) in
    record { scope_same = refl; words_same = omega (arith, room, k.count); leaves = record { names = k.names; count = ap (λ n. n + 1) k.count; most = omega (arith, room, k.count) } }

-- the scope after these statements is the manual's, whatever comes before them
abbrev AreSame : List NumberedStatement → Type 0
AreSame statements = (b : Before) (scope : Scope) (words : ℕ) → first_fault b (lines_by statements) ≡ None → IsScope b scope words → scope_from (lines_by statements) scope words ≡ manual_scope_from statements scope words

-- one statement before such ones
same_line : (s : NumberedStatement) (statements : List NumberedStatement) → AreSame statements → AreSame (s ∷ statements)
unfolding first_fault scope_from manual_scope_from
same_line s statements rest b scope words h k = by (program_by s.says) refl where
  by : (o : Option (List ℕ)) → program_by s.says ≡ o → scope_from (lines_by (s ∷ statements)) scope words ≡ manual_scope_from (s ∷ statements) scope words
  by (Some name) e = rw e refl
  by None e =
      let split = no_fault s.line (statement_fault b (has_word (lines_by statements)) s.says) (first_fault (after b s.says) (lines_by statements)) h in
      let p = passed b (has_word (lines_by statements)) scope words s.says e split.0 k in
      rw (e, p.scope_same, p.words_same) (rest (after b s.says) (manual_scope_by scope words s.says) (manual_words_by words s.says) split.1 p.leaves)

-- the symbols of statements without faults, up to where the next program begins
pub scope_same : (statements : List NumberedStatement) → AreSame statements
unfolding scope_from manual_scope_from
scope_same [] b scope words h k = refl
scope_same (s ∷ statements) b scope words h k = same_line s statements (scope_same statements) b scope words h k
