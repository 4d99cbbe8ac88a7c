-- A run that stopped has written a first part of its whole text.
use Rattle.std.proofs.Common.{◌≡◌, ℕ, ◌+◌, ◌-◌, ◌≤◌, Bool, true, false, Option, List, ◌++◌, refl, sym, ap, subst, ◌∙◌, arith}
use Rattle.pio_edge.specs.Edge.{TakesPrefix}
use Rattle.idle_engine.specs.Stops.{LeavesFirstPart, PartStays}
use Rattle.idle_engine.specs.Kinds.{AreFirsts}
use Rattle.idle_engine.proofs.GrowingLists.{firsts-from}

-- by whether its end was told
by_end : {V : Type 0} (at : ℕ → V) (all : ℕ → List V) → AreFirsts at all → (before taken : Option (List ℕ))
    (text : List V → Bool → List ℕ) (clocks count : ℕ) (ended : Bool) → PartStays before taken text → count ≤ clocks
    → (ended ≡ true → count ≡ clocks) → TakesPrefix before (text (all count) ended) taken
    → TakesPrefix before (text (all clocks) true) taken
by_end at all h before taken text clocks count true stays within whole p =
    subst (λ (n : ℕ). TakesPrefix before (text (all n) true) taken) (whole refl) p
by_end {V} at all h before taken text clocks count false stays within whole p =
    let rest : count + (clocks - count) ≡ clocks = omega arith in
    let from = firsts-from at all h count (clocks - count) in
    let both : all clocks ≡ all count ++ from.0 = ap all (sym rest) ∙ from.1 in
    subst (λ (l : List V). TakesPrefix before (text l true) taken) (sym both) (stays (all count) from.0 p)

pub stopped : {R V : Type 0} (after : ℕ → R) (at : ℕ → V) (all : ℕ → List V) → AreFirsts at all → LeavesFirstPart after all
stopped after at all h = λ before taken text clocks now stays stop.
    by_end at all h before taken text clocks stop.count stop.ended stays stop.within stop.whole stop.breaks
