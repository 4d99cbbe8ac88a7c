-- The programs of lines whose statements have no fault are those of the manual's reading.
use Rattle.std.proofs.Common.{◌≡◌, ℕ, ◌∷◌, [], true, false, not, List, length, Some, None, Result, Ok, Err, IfOk, refl, sym, ap, ◌∙◌, nat_le, arith}
use Rattle.std.proofs.lemmas.Bool.{not-false}
use Rattle.pio_expr.specs.Values.{Scope, no_symbols, begun as with_program}
use Rattle.pio_statement.specs.declared.statement.Statement.{Statement}
use Rattle.pio_statement.specs.declared.statement.Statement.TheVariants as statement
use Rattle.pio_assemble.specs.declared.before.Before.{Before}
use Rattle.pio_assemble.specs.declared.fault.SourceKind.{SourceKind}
use Rattle.pio_assemble.specs.declared.fault.SourceKind.TheVariants.{Many, EmptyProgram}
use Rattle.pio_assemble.specs.declared.line.SourceLine.{SourceLine}
use Rattle.answers.specs.Answers.{◌>>=◌}
use Rattle.pio_assemble.specs.Answers.{at_line}
use Rattle.pio_assemble.specs.Checks.{first_fault, statement_fault, nothing_before, duplicate, fault_if, program_after, after, ◌<|>◌}
use Rattle.pio_assemble.specs.Drafts.{Draft, begun, drafted, finished}
use Rattle.pio_assemble.specs.Lines.{has_word, word_by}
use Rattle.pio_assemble.specs.Manual.{NumberedStatement, manual_scope_from, manual_drafted, manual_finished, manual_programs_from, manual_programs_by, manual_programs_of}
use Rattle.pio_assemble.specs.Program.{Assembled}
use Rattle.pio_assemble.specs.Source.{program_by, programs_by, programs_from, programs_of, program_scope, global_scope, with_programs}
use Rattle.pio_assemble.proofs.Faultless.{no_fault, no_second, no_cause}
use Rattle.pio_assemble.proofs.ManualLines.{line_of, lines_by, all_say}
use Rattle.pio_assemble.proofs.ManualScope.{scope_same}
use Rattle.pio_assemble.proofs.ManualDrafts.{IsDraft, drafted_same, finished_same}

-- the programs of these statements are the manual's, whatever comes before them
abbrev AreSame : List NumberedStatement → Type 0
AreSame statements = (b : Before) (scope : Scope) (d : Draft) → first_fault b (lines_by statements) ≡ None → IsDraft b (has_word (lines_by statements)) d
    → programs_from (lines_by statements) scope d ≡ manual_programs_from statements scope d

module _ (n : ℕ) (statements : List NumberedStatement) (rest : AreSame statements) (b : Before) (scope : Scope) (d : Draft) where
  -- the statement begins a program
  begins : (name : List ℕ) → statement_fault b (has_word (lines_by statements)) (statement.Program name) ≡ None → first_fault (program_after b name) (lines_by statements) ≡ None → IsDraft b false d
      → with_programs (finished d) (programs_from (lines_by statements) (program_scope scope (lines_by statements)) (begun (Some name))) ≡ with_programs (manual_finished d) (manual_programs_from statements (manual_scope_from statements (with_program scope) 0) (begun (Some name)))
  unfolding statement_fault
  begins name fault passes k =
      let many = fault_if (nat_le 64 (length b.programs)) Many in
      let placed = no_second many (fault_if (not (has_word (lines_by statements))) EmptyProgram) (no_second (duplicate b.programs name) (many <|> fault_if (not (has_word (lines_by statements))) EmptyProgram) fault) in
      let comes : has_word (lines_by statements) ≡ true = not-false (has_word (lines_by statements)) (no_cause (not (has_word (lines_by statements))) EmptyProgram placed) in
      let scopes : program_scope scope (lines_by statements) ≡ manual_scope_from statements (with_program scope) 0 =
      scope_same statements (program_after b name) (with_program scope) 0 passes (record { names = refl; count = refl; most = omega arith }) in
      let following = rest (program_after b name) (program_scope scope (lines_by statements)) (begun (Some name)) passes (record { count = refl; rule = (refl, refl); wraps = λ other e. rw comes (omega arith) }) in
      ap (λ ps. with_programs ps (programs_from (lines_by statements) (program_scope scope (lines_by statements)) (begun (Some name)))) (finished_same b d k)
      ∙ ap (with_programs (manual_finished d)) (following ∙ ap (λ sc. manual_programs_from statements sc (begun (Some name))) scopes)

  -- what a statement made of the program, before the others
  goes_on : (c : Before) (r : Result Draft SourceKind) → first_fault c (lines_by statements) ≡ None → IfOk r (IsDraft c (has_word (lines_by statements)))
      → (at_line n r >>= programs_from (lines_by statements) scope) ≡ (at_line n r >>= manual_programs_from statements scope)
  goes_on c (Err kind) passes k = refl
  goes_on c (Ok more) passes k = rest c scope more passes k

  -- a statement that adds to the program, and has no fault
  adds : (s : Statement) → program_by s ≡ None → statement_fault b (has_word (lines_by statements)) s ≡ None → first_fault (after b s) (lines_by statements) ≡ None → IsDraft b (word_by s (has_word (lines_by statements))) d
      → (at_line n (drafted scope d s) >>= programs_from (lines_by statements) scope) ≡ (at_line n (manual_drafted scope d s) >>= manual_programs_from statements scope)
  adds s h fault passes k =
      let it = drafted_same scope b (has_word (lines_by statements)) d s h fault k in
      ap (λ (r : Result Draft SourceKind). at_line n r >>= programs_from (lines_by statements) scope) it.same ∙ goes_on (after b s) (manual_drafted scope d s) passes it.leaves

  -- a statement of either kind
  line_same : (s : Statement) → statement_fault b (has_word (lines_by statements)) s ≡ None → first_fault (after b s) (lines_by statements) ≡ None → IsDraft b (word_by s (has_word (lines_by statements))) d
      → programs_by (programs_from (lines_by statements)) scope d (line_of (record { line = n; says = s })) (lines_by statements) (program_by s) ≡ manual_programs_by (manual_programs_from statements) scope d (record { line = n; says = s }) statements (program_by s)
  unfolding after
  line_same (statement.Program name) fault passes k = begins name fault passes k
  line_same other fault passes k = adds other refl fault passes k

-- the programs of statements without faults
programs_same : (statements : List NumberedStatement) → AreSame statements
unfolding first_fault has_word programs_from manual_programs_from
programs_same [] b scope d h k = ap (λ (ps : List Assembled). Ok ps) (finished_same b d k)
programs_same (s ∷ statements) b scope d h k =
    let split = no_fault s.line (statement_fault b (has_word (lines_by statements)) s.says) (first_fault (after b s.says) (lines_by statements)) h in
    line_same s.line statements (programs_same statements) b scope d s.says split.0 split.1 k

-- the programs of lines whose statements have no fault
pub none_clipped : (lines : List SourceLine) → first_fault nothing_before lines ≡ None → programs_of lines ≡ manual_programs_of lines
none_clipped lines h =
    let said = all_say lines nothing_before h in
    let passes : first_fault nothing_before (lines_by said.statements) ≡ None = ap (first_fault nothing_before) (sym said.whole) ∙ h in
    let globals : global_scope (lines_by said.statements) ≡ manual_scope_from said.statements no_symbols 0 =
    scope_same said.statements nothing_before no_symbols 0 passes (record { names = refl; count = refl; most = omega arith }) in
    let programs = programs_same said.statements nothing_before (global_scope (lines_by said.statements)) (begun None) passes (record { count = refl; rule = (refl, refl); wraps = λ name e. cc }) in
    let is_so : manual_programs_of lines ≡ manual_programs_from said.statements (manual_scope_from said.statements no_symbols 0) (begun None) = rw said.read refl in
    ap programs_of said.whole ∙ programs ∙ ap (λ sc. manual_programs_from said.statements sc (begun None)) globals ∙ sym is_so
