use Rattle.machine_rows.proofs.leaps.pair_watched.Given as goal

-- the run has a ledger of its own, in one part
abbrev pub ghosts-pair_has_ended : goal.ghosts-pair_has_ended
ghosts-pair_has_ended a = record { name = a.blank.name; parts = a.blank.parts }
