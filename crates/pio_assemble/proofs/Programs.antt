-- The programs of lines, one line at a time.
use Rattle.std.proofs.Common.{◌≡◌, ℕ, ◌+◌, ◌<◌, [], ◌++◌, List, length, drop, get_or, Some, None, Result, Ok, Err, is_some, refl, sym, ap, ◌∙◌, append_assoc}
use Rattle.pio_lex.specs.declared.fault.LexFault.{LexFault}
use Rattle.pio_lex.specs.declared.fault.LexFault.TheVariants as lex_fault
use Rattle.pio_lex.specs.declared.token.Token.{Token}
use Rattle.answers.specs.Answers as answers
use Rattle.pio_lex.specs.Fault.{LexRefusal, told as lex_told}
use Rattle.pio_expr.specs.Values.{Scope}
use Rattle.pio_assemble.specs.declared.fault.LineFault.{LineFault}
use Rattle.pio_assemble.specs.declared.fault.LineFault.TheVariants as line_fault
use Rattle.pio_assemble.specs.declared.line.SourceLine.{SourceLine}
use Rattle.answers.specs.Answers.{◌>>=◌}
use Rattle.pio_assemble.specs.Answers.{SourceRefusal, line_told, told, located, at_line}
use Rattle.pio_assemble.specs.Drafts.{Draft, begun, finished}
use Rattle.pio_assemble.specs.Program.{Assembled}
use Rattle.pio_assemble.specs.Source.{program_on, program_scope, programs_from, programs_by, with_programs, drafted_on, after_program, told_of_lex, reads_tokens}
use Rattle.pio_assemble.proofs.Lining.{first_left}
use Rattle.pio_assemble.proofs.Scoping.{program_begins, program_goes_on}

-- no programs before others
pub none_before : (others : Result (List Assembled) SourceRefusal) → with_programs [] others ≡ others
none_before (Ok others) = refl
none_before (Err refusal) = refl

-- programs before programs before others
pub joined : (first then : List Assembled) (others : Result (List Assembled) SourceRefusal) → with_programs first (with_programs then others) ≡ with_programs (first ++ then) others
joined first then (Ok others) = ap Ok (sym (append_assoc first then others))
joined first then (Err refusal) = refl

module _ (lines : List SourceLine) (i : ℕ) (l : SourceLine) (within : i < length lines) (here : l ≡ get_or lines i l) where
  -- the first of the lines that are left begins a program
  pub begins_left : (first : List Assembled) (scope : Scope) (d : Draft) (name : List ℕ) → program_on l.reading ≡ Some name
      → with_programs (first ++ finished d) (programs_from (drop (i + 1) lines) (program_scope scope (drop (i + 1) lines)) (begun (Some name)))
      ≡ with_programs first (programs_from (drop i lines) scope d)
  unfolding programs_from
  begins_left first scope d name begins =
      let rest = drop (i + 1) lines in
      let step : programs_from (drop i lines) scope d ≡ with_programs (finished d) (programs_from rest (program_scope scope rest) (begun (Some name))) =
      ap (λ ls. programs_from ls scope d) (first_left lines i l within here) ∙ ap (programs_by (programs_from rest) scope d l rest) begins in
      sym (ap (with_programs first) step ∙ joined first (finished d) _)

  pub after_begins : (name : List ℕ) → program_on l.reading ≡ Some name → after_program (drop i lines) ≡ drop (i + 1) lines
  after_begins name begins = ap after_program (first_left lines i l within here) ∙ program_begins l (drop (i + 1) lines) (ap is_some begins)

  -- it adds to the program
  pub adds_left : (scope : Scope) (d more : Draft) → program_on l.reading ≡ None → drafted_on scope d l.reading ≡ Ok more
      → programs_from (drop (i + 1) lines) scope more ≡ programs_from (drop i lines) scope d
  unfolding programs_from
  adds_left scope d more goes_on adds =
      let rest = drop (i + 1) lines in
      sym (ap (λ ls. programs_from ls scope d) (first_left lines i l within here) ∙ ap (programs_by (programs_from rest) scope d l rest) goes_on
      ∙ ap (λ r. at_line l.number r >>= programs_from rest scope) adds)

  pub after_adds : program_on l.reading ≡ None → after_program (drop (i + 1) lines) ≡ after_program (drop i lines)
  after_adds goes_on = sym (ap after_program (first_left lines i l within here) ∙ program_goes_on l (drop (i + 1) lines) (ap is_some goes_on))

  -- its value has a fault
  pub fault_left : (first : List Assembled) (scope : Scope) (d : Draft) (fault : LineFault) → program_on l.reading ≡ None → answers.Refuses (line_told fault) (drafted_on scope d l.reading)
      → answers.Refuses (told (located l.number fault)) (with_programs first (programs_from (drop i lines) scope d))
  fault_left first scope d line_fault.Memory goes_on told = tt
  fault_left first scope d (line_fault.Found kind) goes_on told =
      unfold programs_from in
      let rest = drop (i + 1) lines in
      ap (with_programs first) (ap (λ ls. programs_from ls scope d) (first_left lines i l within here) ∙ ap (programs_by (programs_from rest) scope d l rest) goes_on
      ∙ ap (λ r. at_line l.number r >>= programs_from rest scope) told)

-- a source without tokens has the fault of its reading
pub told_of_tokens : (source : List ℕ) (fault : LexFault) (read : Result (List Token) LexRefusal) → answers.Refuses (lex_told fault) read → answers.Refuses (told (told_of_lex fault)) (reads_tokens source read)
told_of_tokens source lex_fault.Memory read h = tt
told_of_tokens source (lex_fault.Found line kind) read h = ap (reads_tokens source) h
