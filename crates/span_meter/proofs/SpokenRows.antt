-- Worked rows: what spans measure that speak not of every pair, worked out by hand.
use Rattle.std.proofs.Common.{◌≡◌, true, false, [], ◌∷◌, refl}
use Rattle.span_meter.specs.Spoken.{Mark, clocks_to_spoken, spoken}

-- marks with a from-event, a to-event, both, neither, and one that drops what was open
abbrev opens : Mark
opens = record { from = true; to = false; drops = false }

abbrev closes : Mark
closes = record { from = false; to = true; drops = false }

abbrev both : Mark
both = record { from = true; to = true; drops = false }

abbrev idle : Mark
idle = record { from = false; to = false; drops = false }

abbrev drops : Mark
drops = record { from = false; to = false; drops = true }

abbrev dropping : Mark → Mark
dropping m = record m { drops = true }

-- from each from-event to the first to-event after it
in_time : spoken (opens ∷ idle ∷ closes ∷ idle ∷ opens ∷ closes ∷ closes ∷ opens ∷ []) ≡ 2 ∷ 1 ∷ []
unfolding spoken clocks_to_spoken
in_time = refl

-- a to-event in the from-event's own clock doesn't close it
own_clock : spoken (both ∷ idle ∷ both ∷ idle ∷ closes ∷ []) ≡ 2 ∷ 2 ∷ []
unfolding spoken clocks_to_spoken
own_clock = refl

-- a clock between them drops it, and so does the to-event's own
dropped_between : spoken (opens ∷ drops ∷ closes ∷ opens ∷ closes ∷ []) ≡ 1 ∷ []
unfolding spoken clocks_to_spoken
dropped_between = refl

dropped_at_its_end : spoken (opens ∷ idle ∷ dropping closes ∷ closes ∷ []) ≡ []
unfolding spoken clocks_to_spoken
dropped_at_its_end = refl

-- but not the from-event's own, nor one before it, nor one after its end
not_by_its_own_clock : spoken (drops ∷ dropping opens ∷ idle ∷ closes ∷ drops ∷ []) ≡ 2 ∷ []
unfolding spoken clocks_to_spoken
not_by_its_own_clock = refl

-- of two open from-events only those before the clock are dropped
the_first_alone : spoken (opens ∷ dropping opens ∷ closes ∷ []) ≡ 1 ∷ []
unfolding spoken clocks_to_spoken
the_first_alone = refl

-- after a dropped one a later to-event isn't its end
no_later_end : spoken (opens ∷ drops ∷ idle ∷ closes ∷ []) ≡ []
unfolding spoken clocks_to_spoken
no_later_end = refl
