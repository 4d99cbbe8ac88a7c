-- What a span measures that speaks not of every pair of its events: in clocks, from each from-event to the first to-event after it,
-- if the span speaks of that from-event up to there.
--   Mark               what such a span looks at in a clock
--   clocks_to_spoken   how many clocks pass before the first to-event
--   spoken             the clocks from each from-event to it
--   dropped, after_mark   what a meter keeps of a clock
--   MeasuresMarks      what a meter has measured
--   IsPair             a from-event and its to-event, of which the span speaks
--   IsOfPair           a distance is that of some pair
use Rattle.std.specs.Prelude.{◌≡◌, ℕ, suc, ◌+◌, ◌<◌, ◌≤◌, ◌++◌, Bool, true, false, Option, Some, None, List, [], ◌∷◌, length, if◌then◌else◌}
use Rattle.std.specs.Option.{option_map}
use Rattle.span_meter.specs.declared.meter.Meter.{Meter}
use Rattle.span_meter.specs.Measured.{with_distance}
use Rattle.span_meter.specs.Meters.{IsCountOf, ended, moved}

-- What a span looks at in a clock: its events, and whether it doesn't speak of the from-events before.
pub record Mark : Type 0 where
  pub from : Bool
  pub to : Bool
  pub drops : Bool

-- How many of these clocks pass before the one in which the first to-event comes, unless the span stops speaking of the from-events
-- before: in the to-event's own clock too.
unfoldable pub clocks_to_spoken : List Mark → Option ℕ
clocks_to_spoken [] = None
clocks_to_spoken (m ∷ rest) =
    if m.drops then None else if m.to then Some 0 else option_map suc (clocks_to_spoken rest)

-- For each clock with a from-event, in order, how many clocks later the first to-event after it comes. A from-event has no distance
-- after which none comes, or of which the span doesn't speak up to there.
unfoldable pub spoken : List Mark → List ℕ
spoken [] = []
spoken (m ∷ rest) = if m.from then with_distance (clocks_to_spoken rest) (spoken rest) else spoken rest

-- the pairs that are open are dropped, where the span doesn't speak of them any more
abbrev pub dropped : Bool → Meter → Meter
dropped drops m = if drops then record m { begun = 0 } else m

-- one meter after a clock with this mark
abbrev pub after_mark : (clock : ℕ) → Mark → Meter → Meter
after_mark clock k m = moved k.to k.from clock (dropped k.drops m)

-- What one meter has measured in clocks with these marks. `starts` are the clocks of the from-events that are open: the distances in
-- more clocks are those so far, those that end in them, and those that begin in them.
pub record MeasuresMarks (told : List Mark) (m : Meter) : Type 0 where
  pub starts : List ℕ
  pub counts : IsCountOf (spoken told) starts (length told) m
  pub going : (rest : List Mark) → spoken (told ++ rest)
      ≡ spoken told ++ (ended (length told) starts (clocks_to_spoken rest) ++ spoken rest)

-- these are the marks of the clocks from this one on
abbrev pub AreMarksFrom : (at : ℕ → Mark) → (clock : ℕ) → List Mark → Type 0
AreMarksFrom at clock [] = Unit {0}
AreMarksFrom at clock (k ∷ ks) = (k ≡ at clock) × AreMarksFrom at (suc clock) ks

-- In clocks with these marks a from-event comes in clock s, and the first to-event after it in clock e, before the end. No clock
-- after s and up to e drops it.
pub record IsPair (at : ℕ → Mark) (end s e : ℕ) : Type 0 where
  pub from : (at s).from ≡ true
  pub after : s < e
  pub within : e < end
  pub to : (at e).to ≡ true
  pub first : (c : ℕ) → s < c → c < e → (at c).to ≡ false
  pub free : (c : ℕ) → s < c → c ≤ e → (at c).drops ≡ false

-- the distance is that of some pair
pub record IsOfPair (at : ℕ → Mark) (end distance : ℕ) : Type 0 where
  pub s : ℕ
  pub e : ℕ
  pub long : e ≡ s + distance
  pub pair : IsPair at end s e
