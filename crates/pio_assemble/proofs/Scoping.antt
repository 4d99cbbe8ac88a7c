-- The symbols of lines, one line at a time.
use Rattle.std.proofs.Common.{◌≡◌, ℕ, ◌∷◌, List, true, false, is_some, refl}
use Rattle.pio_expr.specs.Values.{Scope}
use Rattle.pio_assemble.specs.declared.line.SourceLine.{SourceLine}
use Rattle.pio_assemble.specs.Source.{program_on, scope_from, scope_on, words_on, after_program}

module _ (l : SourceLine) (lines : List SourceLine) where
  -- where a program begins, they end
  pub symbols_end : (scope : Scope) (words : ℕ) → is_some (program_on l.reading) ≡ true → scope_from (l ∷ lines) scope words ≡ scope
  unfolding scope_from
  symbols_end scope words begins = rw begins refl

  pub program_begins : is_some (program_on l.reading) ≡ true → after_program (l ∷ lines) ≡ lines
  unfolding after_program
  program_begins begins = rw begins refl

  -- else they go on
  pub symbols_go_on : (scope : Scope) (words : ℕ) → is_some (program_on l.reading) ≡ false → scope_from (l ∷ lines) scope words ≡ scope_from lines (scope_on scope words l.reading) (words_on words l.reading)
  unfolding scope_from
  symbols_go_on scope words more = rw more refl

  pub program_goes_on : is_some (program_on l.reading) ≡ false → after_program (l ∷ lines) ≡ after_program lines
  unfolding after_program
  program_goes_on more = rw more refl
