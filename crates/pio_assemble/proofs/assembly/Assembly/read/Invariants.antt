use Rattle.std.proofs.Common.{◌≡◌, drop, map}
use Rattle.pio_assemble.specs.Program.{assembled_of}
use Rattle.pio_assemble.specs.Source.{with_programs, programs_from, after_program}
use Rattle.pio_assemble.proofs.assembly.Assembly.read.Given as goal

abbrev pub invariant-loop-line : goal.invariant-loop-line
invariant-loop-line l = record {
  programs : with_programs (map assembled_of l.self.programs.items) (programs_from (drop l.line-index l.lines) l.self.scope l.self.draft)
      ≡ with_programs (map assembled_of l.fn.self.programs.items) (programs_from l.lines l.fn.self.scope l.fn.self.draft);
  symbols : l.self.symbols.now ≡ after_program (drop l.line-index l.lines);
}
