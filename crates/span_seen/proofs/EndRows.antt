-- Rows of the end of what a span assumes, worked out by hand.
use Rattle.std.proofs.Common.{◌≡◌, ℕ, zero, suc, ◌<◌, Bool, true, false, Some, None, refl, arith}
use Rattle.span_check.specs.Marks.{Mark}
use Rattle.span_seen.specs.Ends.{IsAssumedUpTo}

abbrev mark : (misses rested : Bool) → Mark
mark misses rested = record { from = false; to = false; counts = false; strays = false; breaks = false; excused = false; misses = misses; rested = rested }

-- an assumption is missed in clock 1, and the delay after it is over in clock 3
abbrev later : ℕ → Mark
later zero = mark false false
later (suc zero) = mark true false
later (suc (suc zero)) = mark false false
later (suc (suc (suc c))) = mark false true

in_delay : (c : ℕ) → c < 3 → (later c).rested ≡ false
in_delay zero low = refl
in_delay (suc zero) low = refl
in_delay (suc (suc zero)) low = refl
in_delay (suc (suc (suc c))) low = absurd (omega arith)

-- so clock 3 is the end of five clocks, and the first three have none
end_of_the_delay : IsAssumedUpTo later 5 (Some 3)
end_of_the_delay = (omega arith, record { missed_in = 1; misses = refl; after = omega arith; rested = refl; assumed = λ f c misses low below. in_delay c below })

none_before_it : IsAssumedUpTo later 3 None
none_before_it f c misses low below = in_delay c below

-- neither the clock of the miss is, nor one after the end, nor is there none
not_the_miss : IsAssumedUpTo later 5 (Some 1) → ⊥
not_the_miss h = let rested : false ≡ true = h.1.rested in cc

not_after_it : IsAssumedUpTo later 5 (Some 4) → ⊥
not_after_it h = let early : true ≡ false = h.1.assumed 1 3 refl (omega arith) (omega arith) in cc

not_none : IsAssumedUpTo later 5 None → ⊥
not_none h = let early : true ≡ false = h 1 3 refl (omega arith) (omega arith) in cc

-- without a delay it is the clock of the miss, if it is one of those that are measured
abbrev at_once : ℕ → Mark
at_once zero = mark true true
at_once (suc c) = mark false true

end_of_the_miss : IsAssumedUpTo at_once 1 (Some 0)
end_of_the_miss = (omega arith, record { missed_in = 0; misses = refl; after = omega arith; rested = refl; assumed = λ f c misses low below. absurd (omega arith) })

not_measured : IsAssumedUpTo later 3 (Some 3) → ⊥
not_measured h = let low = h.0 in absurd (omega arith)
