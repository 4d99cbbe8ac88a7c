-- What an output has taken of a run that a trace writes: the whole text, or a first part of it where the run stopped.
use Rattle.std.proofs.Common.{◌≡◌, ℕ, Bool, Option, List, Result, Ok, Err, OnOk, OnErr}
use Rattle.pio_edge.specs.Edge.{Takes, TakesPrefix, with_bytes}
use Rattle.idle_engine.specs.Stops.{Stops}

-- by the two ends
pub takes : {T E : Type 0} (r : Result T E) (before taken : Option (List ℕ)) (text : List ℕ) → OnOk r (taken ≡ with_bytes before text) → OnErr r (TakesPrefix before text taken) → Takes before text taken r
takes (Ok x) before taken text whole part = whole
takes (Err e) before taken text whole part = part

-- a run stopped at what breaks the trace, and so at what follows from that
pub stops_as : {R V : Type 0} (after : ℕ → R) (shown : ℕ → List V) (clocks : ℕ) (now : R) (P Q : List V → Bool → Type 0) → ((told : List V) (ended : Bool) → P told ended → Q told ended) → Stops after shown clocks now P → Stops after shown clocks now Q
stops_as after shown clocks now P Q follows s = record {
  count = s.count;
  within = s.within;
  ended = s.ended;
  whole = s.whole;
  run = s.run;
  breaks = follows (shown s.count) s.ended s.breaks;
}
