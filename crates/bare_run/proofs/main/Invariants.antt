use Rattle.bare_run.proofs.main.Given as goal

-- the one run has a ledger of its own, in one part
abbrev pub ghosts-asked : goal.ghosts-asked
ghosts-asked a = record { name = a.blank.name; parts = a.blank.parts }
