use Rattle.call_rows.proofs.calls.call.seen.Given as goal

-- each call has a ledger of its own, in one part
abbrev pub ghosts-seen_of : goal.ghosts-seen_of
ghosts-seen_of a = record { name = a.blank.name; parts = a.blank.parts }
