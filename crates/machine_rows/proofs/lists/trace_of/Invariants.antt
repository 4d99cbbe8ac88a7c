use Rattle.machine_rows.proofs.lists.trace_of.Given as goal

-- the run has a ledger of its own, in one part
abbrev pub ghosts-has_ended : goal.ghosts-has_ended
ghosts-has_ended g a = record { name = a.blank.name; parts = a.blank.parts }
