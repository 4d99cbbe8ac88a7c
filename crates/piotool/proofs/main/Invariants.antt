use Rattle.piotool.proofs.main.Given as goal

-- the one call has a ledger of its own, in one part
abbrev pub ghosts-counted : goal.ghosts-counted
ghosts-counted a = record { name = a.blank.name; parts = a.blank.parts }
