-- Words of the laws of a step.
--   AreAlike         two lists are as long, and a relation holds place by place
--   GoesLike         two nexts go to one context, by courses that pass alike, with related ages
--   AllImplied       each cause of the first is one of the second
--   IsNarrower       a step has the nexts of another with ages inside, and no more causes
--   most_of          the span's greatest bound in ticks, above which ages are alike
--   cap_of           the age at which ages stop
--   ReachesAge       some age is at least this
--   first_cause      the first cause in the order U1, U2, U3, U4, U6
--   NonePass         no course passes
--   AllPlaced        each next context is in range
use Rattle.std.specs.Prelude.{◌≡◌, ℕ, ◌+◌, ◌≤◌, Bool, true, false, if◌then◌else◌, Option, Some, None, List, [], ◌∷◌, slice_index_or}
use Rattle.pin_matrix.specs.declared.assume.Follow.{Follow}
use Rattle.pin_matrix.specs.declared.machine.MachineSetup.{MachineSetup}
use Rattle.pin_matrix.specs.declared.setup.Setup.{Setup}
use Rattle.pin_matrix.specs.declared.span.Span.{Span}
use Rattle.span_step.specs.declared.ages.Ages.{Ages}
use Rattle.span_step.specs.declared.ages.Ages.TheVariants.{Empty, Between}
use Rattle.span_step.specs.declared.cause.Cause.{Cause}
use Rattle.span_step.specs.declared.cause.Cause.TheVariants.{U1, U2, U3, U4, U6}
use Rattle.span_step.specs.declared.cause.Causes.{Causes}
use Rattle.span_step.specs.declared.stepped.Next.{Next}
use Rattle.span_step.specs.declared.stepped.Stepped.{Stepped}
use Rattle.span_step.specs.Contexts.{Context, is_placed, IsInside, is_open}
use Rattle.span_step.specs.Narrowing.{nexts_of}
use Rattle.span_step.specs.Steps.{bounds_of}

-- two lists are as long, and the relation holds place by place
abbrev pub AreAlike : (Next → Next → Type 0) → List Next → List Next → Type 0
AreAlike R [] [] = Unit {0}
AreAlike R [] (y ∷ ys) = ⊥
AreAlike R (x ∷ xs) [] = ⊥
AreAlike R (x ∷ xs) (y ∷ ys) = R x y × AreAlike R xs ys

-- two nexts go to one context by courses that both pass or both have a to-event; their ages are related, which may look at that
pub record GoesLike (R : Bool → Ages → Ages → Type 0) (m n : Next) : Type 0 where
  pub context : m.context ≡ n.context
  pub passes : m.passes ≡ n.passes
  pub ages : R m.passes m.ages n.ages

-- where a next goes, and whether its course passes
abbrev pub aim_of : Next → Context × Bool
aim_of n = (n.context, n.passes)

-- each cause of the first is one of the second
pub record AllImplied (a b : Causes) : Type 0 where
  pub u1 : a.u1 ≡ true → b.u1 ≡ true
  pub u2 : a.u2 ≡ true → b.u2 ≡ true
  pub u3 : a.u3 ≡ true → b.u3 ≡ true
  pub u4 : a.u4 ≡ true → b.u4 ≡ true
  pub u6 : a.u6 ≡ true → b.u6 ≡ true

-- the ages lie inside, whether the course passes or not
abbrev pub AreInside : Bool → Ages → Ages → Type 0
AreInside p a b = IsInside a b

-- both are open, or neither
abbrev pub OpenAlike : Bool → Ages → Ages → Type 0
OpenAlike p a b = is_open a ≡ is_open b

-- the ages are the same where a to-event came
abbrev pub SameAfterEdge : Bool → Ages → Ages → Type 0
SameAfterEdge p a b = p ≡ false → a ≡ b

-- a step has the same next contexts with ages inside, no more causes, and the same from-event
pub record IsNarrower (s t : Stepped) : Type 0 where
  pub nexts : AreAlike (GoesLike AreInside) (nexts_of s) (nexts_of t)
  pub causes : AllImplied s.causes t.causes
  pub from_edge : s.from_edge ≡ t.from_edge

-- the greatest bound in ticks of the span's machine, or what is in its place
abbrev pub most_on : Option MachineSetup → Span → ℕ
most_on None sp = 0
most_on (Some s) sp = (bounds_of sp s).1

-- the same in a setup
unfoldable pub most_of : Setup → Span → ℕ
most_of u sp = most_on (slice_index_or u.machines sp.machine None) sp

-- the age at which ages stop
abbrev pub cap_of : Setup → Span → ℕ
cap_of u sp = most_of u sp + 1

-- some age is at least this
abbrev pub ReachesAge : ℕ → Ages → Type 0
ReachesAge n Empty = ⊥
ReachesAge n (Between lo hi) = n ≤ hi

-- no age is above this
abbrev pub AreUpTo : ℕ → Ages → Type 0
AreUpTo n Empty = Unit {0}
AreUpTo n (Between lo hi) = (lo ≤ n) × (hi ≤ n)

-- the first cause in the order U1, U2, U3, U4, U6
abbrev pub first_cause : Causes → Option Cause
first_cause c =
    if c.u1 then Some U1 else if c.u2 then Some U2 else if c.u3 then Some U3 else if c.u4 then Some U4 else if c.u6 then Some U6 else None

-- no age of a next is above this
abbrev pub AllUpTo : ℕ → List Next → Type 0
AllUpTo n [] = Unit {0}
AllUpTo n (m ∷ ms) = AreUpTo n m.ages × AllUpTo n ms

-- the ages of each next to which a course passes reach this
abbrev pub AllReach : ℕ → List Next → Type 0
AllReach n [] = Unit {0}
AllReach n (m ∷ ms) = (m.passes ≡ true → ReachesAge n m.ages) × AllReach n ms

-- no course passes
abbrev pub NonePass : List Next → Type 0
NonePass [] = Unit {0}
NonePass (m ∷ ms) = (m.passes ≡ false) × NonePass ms

-- each next context is in range
abbrev pub AllPlaced : Follow → List Next → Type 0
AllPlaced f [] = Unit {0}
AllPlaced f (m ∷ ms) = (is_placed f m.context.address m.context.x m.context.y ≡ true) × AllPlaced f ms
