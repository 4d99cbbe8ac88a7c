use Rattle.std.proofs.Common.{◌≡◌, ◌≤◌, List, [], ◌∷◌, length, get_or, map, ap, sym, arith}
use Rattle.pio_assemble.specs.declared.program.Program.{Program}
use Rattle.pio_assemble.specs.Program.{assembled_of}
use Rattle.answers.specs.Answers.{made}
use Rattle.block_config.specs.SetupOf.{setup_of}
use Rattle.block_config.specs.Default.{block_of, default_setup_of}
use Rattle.block_config.proofs.defaults.default_setup.Goals as goal

-- the first program makes the setup
default_setup_of-cons : (ps : List Program) (p : Program) → 1 ≤ length ps → p ≡ get_or ps 0 p → default_setup_of (map assembled_of ps) ≡ made setup_of (block_of (assembled_of p))
default_setup_of-cons [] p some e = absurd (omega arith)
default_setup_of-cons (q ∷ ps) p some e = ap (λ (x : Program). made setup_of (block_of (assembled_of x))) (sym e)

pub returns-in-len1-up : goal.returns-in-len1-up
returns-in-len1-up c = rw (default_setup_of-cons c.args.programs.now c.program-item.result c.in-len1-up.len_at_least c.program-item.is) c.setup_of.ensures
