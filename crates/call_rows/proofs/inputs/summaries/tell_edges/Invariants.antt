use Rattle.call_rows.proofs.inputs.summaries.tell_edges.Given as goal

-- each run has a ledger of its own, in one part
abbrev pub ghosts-edges_of : goal.ghosts-edges_of
ghosts-edges_of a = record { name = a.blank.name; parts = a.blank.parts }
