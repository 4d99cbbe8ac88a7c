use Rattle.std.proofs.Common.{◌≡◌, ◌∙◌, [], ap, sym, length, arith}
use Rattle.std.proofs.lemmas.List.{nil_from_length}
use Rattle.pio_assemble.specs.Source.{scope_from, after_program}
use Rattle.pio_assemble.proofs.Scoping.{symbols_end, program_begins, symbols_go_on, program_goes_on}
use Rattle.pio_assemble.proofs.symbols_of.add_symbols.Goals as goal

pub returns-then-is_some-clause-symbols : goal.returns-then-is_some-clause-symbols
returns-then-is_some-clause-symbols c =
    let begins = sym c.program_on.ensures.variant ∙ sym c.is_some.ensures ∙ c.if-is_some.true in
    let end = symbols_end c.in-Some.line.now c.in-Some.after.now c.loop-line.scope c.loop-line.words begins in
    sym (ap (λ ls. scope_from ls c.loop-line.scope c.loop-line.words) c.in-Some.ensures.cases.0 ∙ end) ∙ c.loop-line.invariant.symbols

pub returns-then-is_some-clause-rest : goal.returns-then-is_some-clause-rest
returns-then-is_some-clause-rest c =
    let begins = sym c.program_on.ensures.variant ∙ sym c.is_some.ensures ∙ c.if-is_some.true in
    sym (ap after_program c.in-Some.ensures.cases.0 ∙ program_begins c.in-Some.line.now c.in-Some.after.now begins) ∙ c.loop-line.invariant.rest

pub loop-line-preserved : goal.loop-line-preserved
loop-line-preserved c =
    let first = c.in-Some.ensures.cases.0 in
    let more = sym c.program_on.ensures.variant ∙ sym c.is_some.ensures ∙ c.if-is_some.false in
    let l = c.in-Some.line.now in
    let rest = c.in-Some.after.now in
    record {
      symbols = rw (c.in_ok-add_symbol.ensures, c.words_on-words.ensures) (sym (ap (λ ls. scope_from ls c.loop-line.scope c.loop-line.words) first ∙ symbols_go_on l rest c.loop-line.scope c.loop-line.words more) ∙ c.loop-line.invariant.symbols);
      rest = sym (ap after_program first ∙ program_goes_on l rest more) ∙ c.loop-line.invariant.rest;
    }

pub returns-clause-symbols : goal.returns-clause-symbols
unfolding scope_from
returns-clause-symbols c =
    let zero : length c.loop-line.rest.now ≡ 0 = omega (arith, c.in_default.ensures.cases) in
    let none = nil_from_length c.loop-line.rest.now zero in
    ap (λ ls. scope_from ls c.loop-line.scope c.loop-line.words) (sym none) ∙ c.loop-line.invariant.symbols

pub returns-clause-rest : goal.returns-clause-rest
unfolding after_program
returns-clause-rest c =
    let zero : length c.loop-line.rest.now ≡ 0 = omega (arith, c.in_default.ensures.cases) in
    let none : c.loop-line.rest.now ≡ [] = nil_from_length c.loop-line.rest.now zero in
    none ∙ ap after_program (sym none) ∙ c.loop-line.invariant.rest
