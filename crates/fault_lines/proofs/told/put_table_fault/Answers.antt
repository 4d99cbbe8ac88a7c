use Rattle.std.proofs.Common.{ℕ, List, codes, subst}
use Rattle.pio_edge.specs.Edge.{Takes}
use Rattle.fault_lines.specs.Told.{line_fault}
use Rattle.fault_lines.proofs.told.put_table_fault.Goals as goal

pub returns-clause-bytes : goal.returns-clause-bytes
returns-clause-bytes g c =
    let P : List ℕ → Type 0 = λ code. Takes (g.E.Sink.taken c.args.err.now) (line_fault (codes "piotool: table line ") c.args.line code) (g.E.Sink.taken c.put_line_fault.new.err) c.put_line_fault.result in
    subst P c.code.ensures c.put_line_fault.ensures.bytes
