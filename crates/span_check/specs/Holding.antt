-- That a span holds up to some clock, by the marks of the clocks.
--   counted          the ticks between two clocks that count
--   measured         what a span counts
--   IsQuiet          no to-event comes between two clocks
--   IsFirstToEdge    the first to-event comes
--   IsAssumed        X and Y are as the span assumes up to some clock
--   IsSpokenOf       what a span speaks of
--   IsUpTo           a number is no more than a greatest bound
--   HoldsFrom        what is asked from one from-event on
--   Holds            from each
use Rattle.std.specs.Prelude.{◌≡◌, ℕ, zero, suc, ◌+◌, ◌-◌, ◌<◌, ◌≤◌, nat_lt, true, false, ◌&&◌, if◌then◌else◌, Option, Some, None, IsSome}
use Rattle.pin_matrix.specs.declared.span.SpanUnit.{SpanUnit}
use Rattle.pin_matrix.specs.declared.span.SpanUnit.TheVariants.{Ticks, Clocks}
use Rattle.span_check.specs.Marks.{Mark}

-- how many ticks count in the clocks after clock s and before clock `end`
unfoldable pub counted : (ℕ → Mark) → (s end : ℕ) → ℕ
counted m s zero = 0
counted m s (suc c) = counted m s c + (if nat_lt s c && (m c).counts then 1 else 0)

-- what a span counts from clock s up to the clock before `end`: ticks, or clocks
abbrev pub measured : SpanUnit → (ℕ → Mark) → (s end : ℕ) → ℕ
measured Ticks m s end = counted m s end
measured Clocks m s end = end - 1 - s

-- no to-event comes after clock s and before clock `end`
abbrev pub IsQuiet : (ℕ → Mark) → (s end : ℕ) → Type 0
IsQuiet m s end = (c : ℕ) → s < c → c < end → (m c).to ≡ false

-- the first to-event after clock s comes in clock e
pub record IsFirstToEdge (m : ℕ → Mark) (s e : ℕ) : Type 0 where
  pub after : s < e
  pub first : IsQuiet m s e
  pub edge : (m e).to ≡ true

-- no line disables or restarts the machine after clock s and before clock `end`
abbrev pub IsUnbroken : (ℕ → Mark) → (s end : ℕ) → Type 0
IsUnbroken m s end = (c : ℕ) → s < c → c < end → (m c).breaks ≡ false

-- A span in clocks says nothing of a from-event after which such a line comes; a span in ticks does.
abbrev pub IsUnbrokenIn : SpanUnit → (ℕ → Mark) → (s end : ℕ) → Type 0
IsUnbrokenIn Ticks m s end = Unit {0}
IsUnbrokenIn Clocks m s end = IsUnbroken m s end

-- at the start of no clock after clock s and before clock `end` the machine stands so that earlier from-events are excused
abbrev pub IsUnexcused : (ℕ → Mark) → (s end : ℕ) → Type 0
IsUnexcused m s end = (c : ℕ) → s < c → c < end → (m c).excused ≡ false

-- X and Y are as assumed before clock `end`: the delay after an instruction that leaves one of them otherwise isn't over before
abbrev pub IsAssumed : (ℕ → Mark) → (end : ℕ) → Type 0
IsAssumed m end = (f c : ℕ) → (m f).misses ≡ true → f ≤ c → c < end → (m c).rested ≡ false

-- What a span speaks of: a from-event which the machine doesn't excuse, as long as X and Y are as assumed; in clocks one of those
-- after which no such line comes.
pub record IsSpokenOf (unit : SpanUnit) (m : ℕ → Mark) (s end : ℕ) : Type 0 where
  pub free : IsUnexcused m s end
  pub assumed : IsAssumed m end
  pub unbroken : IsUnbrokenIn unit m s end

-- a number is no more than the greatest bound, if there is one
abbrev pub IsUpTo : Option ℕ → ℕ → Type 0
IsUpTo None n = Unit {0}
IsUpTo (Some most) n = n ≤ most

-- What is asked from the from-event in clock s on, in the clocks before clock n. Where a to-event comes, the count up to the
-- first one is within the bounds; where none comes, the count so far is no more than the greatest. Up to there no late tick comes
-- at an address that the span doesn't name, where there is a greatest bound: without one a wait only lengthens the time.
pub record HoldsFrom (unit : SpanUnit) (min : ℕ) (max : Option ℕ) (m : ℕ → Mark) (n s : ℕ) : Type 0 where
  pub least : (e : ℕ) → IsFirstToEdge m s e → e < n → IsSpokenOf unit m s (suc e) → min ≤ measured unit m s (suc e)
  pub most : (e : ℕ) → IsFirstToEdge m s e → e < n → IsSpokenOf unit m s (suc e) → IsUpTo max (measured unit m s (suc e))
  pub unclosed : IsQuiet m s n → IsSpokenOf unit m s n → IsUpTo max (measured unit m s n)
  pub strays : IsSome max → (c : ℕ) → s < c → c < n → IsQuiet m s c → IsSpokenOf unit m s (suc c) → (m c).strays ≡ false

-- so it is from each from-event before clock n on
abbrev pub Holds : SpanUnit → (min : ℕ) → (max : Option ℕ) → (ℕ → Mark) → (n : ℕ) → Type 0
Holds unit min max m n = (s : ℕ) → s < n → (m s).from ≡ true → HoldsFrom unit min max m n s
