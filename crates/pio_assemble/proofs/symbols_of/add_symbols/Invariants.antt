use Rattle.std.proofs.Common.{◌≡◌, length}
use Rattle.pio_assemble.specs.Source.{scope_from, after_program}
use Rattle.pio_assemble.proofs.symbols_of.add_symbols.Given as goal

abbrev pub invariant-loop-line : goal.invariant-loop-line
invariant-loop-line l = record {
  symbols : scope_from l.rest l.scope l.words ≡ scope_from l.lines l.fn.scope 0;
  rest : after_program l.rest ≡ after_program l.lines;
}

abbrev pub decreases-loop-line : goal.decreases-loop-line
decreases-loop-line l = length l.rest
