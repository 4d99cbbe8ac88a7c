use Rattle.machine_rows.proofs.leaps.watched_inside.Given as goal

-- the run has a ledger of its own, in one part
abbrev pub ghosts-has_ended_inside : goal.ghosts-has_ended_inside
ghosts-has_ended_inside a = record { name = a.blank.name; parts = a.blank.parts }
