-- What a span asks, with a greatest bound and without one.
--   HoldsBetween     with both bounds, each part is asked
--   IsNeverEarly     with a least bound alone, no to-event comes too early
--   IsPlain          a span that excuses no from-event
--   IsOfEdges        a span between edges that any instruction may make
use Rattle.std.specs.Prelude.{◌≡◌, ℕ, suc, ◌<◌, ◌≤◌, true, false, [], IsSome}
use Rattle.pin_matrix.specs.declared.span.Span.{Span}
use Rattle.pin_matrix.specs.declared.span.SpanUnit.{SpanUnit}
use Rattle.span_check.specs.Marks.{Mark}
use Rattle.span_check.specs.Holding.{measured, IsQuiet, IsFirstToEdge, IsSpokenOf}

-- What a span with both bounds asks from the from-event in clock s on, in the clocks before clock n: a first to-event comes neither
-- too early nor too late, the count so far is no more than the greatest bound while none comes, and no late tick comes till then
-- at an address that isn't named.
pub record HoldsBetweenFrom (unit : SpanUnit) (min max : ℕ) (m : ℕ → Mark) (n s : ℕ) : Type 0 where
  pub least : (e : ℕ) → IsFirstToEdge m s e → e < n → IsSpokenOf unit m s (suc e) → min ≤ measured unit m s (suc e)
  pub most : (e : ℕ) → IsFirstToEdge m s e → e < n → IsSpokenOf unit m s (suc e) → measured unit m s (suc e) ≤ max
  pub unclosed : IsQuiet m s n → IsSpokenOf unit m s n → measured unit m s n ≤ max
  pub strays : (c : ℕ) → s < c → c < n → IsQuiet m s c → IsSpokenOf unit m s (suc c) → (m c).strays ≡ false

-- so it is from each from-event before clock n on
abbrev pub HoldsBetween : SpanUnit → (min max : ℕ) → (ℕ → Mark) → (n : ℕ) → Type 0
HoldsBetween unit min max m n = (s : ℕ) → s < n → (m s).from ≡ true → HoldsBetweenFrom unit min max m n s

-- What a span with a least bound alone asks: from each from-event before clock n on, the first to-event doesn't come too early.
abbrev pub IsNeverEarly : SpanUnit → (min : ℕ) → (ℕ → Mark) → (n : ℕ) → Type 0
IsNeverEarly unit min m n =
    (s : ℕ) → s < n → (m s).from ≡ true
    → (e : ℕ) → IsFirstToEdge m s e → e < n → IsSpokenOf unit m s (suc e) → min ≤ measured unit m s (suc e)

-- a span between edges of pins, which names no instruction that makes them
pub record IsOfEdges (sp : Span) : Type 0 where
  pub from : IsSome sp.from_signal
  pub to : IsSome sp.to_signal
  pub from_any : sp.from_at ≡ []
  pub to_any : sp.to_at ≡ []

-- a span that speaks of from-events after which its machine waits, leaves out no way, and assumes nothing
pub record IsPlain (sp : Span) : Type 0 where
  pub waits : sp.prompt ≡ false
  pub leaves : sp.without ≡ []
  pub assumes : sp.assume ≡ []
