use Rattle.pin_matrix.specs.Followed.{followed}
use Rattle.commands.proofs.laws.a_written_table_is_a_proof.Goals as goal

pub returns : goal.returns
returns c u sp rows x y g =
    (c.a_table_is_read_back.ensures (followed sp) rows x y g.least.table (c.a_least_table_is_told.ensures u sp rows g.least), (g.least.closed, g.good))
