use Rattle.span_bounds.proofs.answer.derive.Given as goal

-- the ledger of the count is the one that the blank names
abbrev pub ghosts-counted : goal.ghosts-counted
ghosts-counted a = record { name = a.blank.name; parts = a.blank.parts }
