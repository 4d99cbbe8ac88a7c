-- The first sweep: which contexts have a row in each closed table, and in which of them ages are open.
--   IsHeldBy         an entry is there, and open where the ages are
--   Sweep            the first sweep on its way, with the numbers that wait
--   SweepAtRow       the same while the nexts of a row are looked at
--   IsReach          its end
use Rattle.std.specs.Prelude.{◌≡◌, ℕ, ◌<◌, ◌⊎◌, Bool, true, false, not, ◌||◌, if◌then◌else◌, MatchBool, List, [], ◌∷◌, ◌++◌, length, slice_set, sum_by}
use Rattle.pin_matrix.specs.Followed.{followed}
use Rattle.pin_matrix.specs.declared.assume.Follow.{Follow}
use Rattle.pin_matrix.specs.declared.setup.Setup.{Setup}
use Rattle.pin_matrix.specs.declared.span.Span.{Span}
use Rattle.span_step.specs.declared.ages.Ages.{Ages}
use Rattle.span_step.specs.declared.ages.Ages.TheVariants.{Empty, Between}
use Rattle.span_step.specs.declared.stepped.Next.{Next}
use Rattle.span_step.specs.Contexts.{is_open}
use Rattle.span_bounds.specs.declared.entry.Entry.{Entry}
use Rattle.span_bounds.specs.declared.entry.Entry.TheVariants.{Absent, Present}
use Rattle.span_bounds.specs.Numbers.{number_of, contexts_of}
use Rattle.span_bounds.specs.Tables.{start_context}
use Rattle.span_bounds.specs.Edges.{at, nexts_at, spot, EachNext, IsClosedAt, Among}

-- an entry is there, and open where these ages are
abbrev pub IsHeldBy : Ages → Entry → Type 0
IsHeldBy a Absent = ⊥
IsHeldBy a (Present b) = is_open a ≡ true → is_open b ≡ true

-- the same as a test
abbrev pub holds : Ages → Entry → Bool
holds a Absent = false
holds a (Present b) = not (is_open a) || is_open b

-- the second is there where the first is, and open where the first is
abbrev pub Below : Entry → Entry → Type 0
Below Absent e = Unit {0}
Below (Present a) e = IsHeldBy a e

-- each next is held
abbrev pub AreHeld : Follow → (ℕ → Entry) → List Next → Type 0
AreHeld d f ns = EachNext (λ n. IsHeldBy n.ages (f (spot d n))) ns

-- the ages for a mark: open or not
abbrev pub zeroed : Ages → Ages
zeroed a = if is_open a then Between 0 0 else Empty

-- how often an entry may still be raised
abbrev pub rises_left : Entry → ℕ
rises_left Absent = 2
rises_left (Present Empty) = 1
rises_left (Present (Between lo hi)) = 0

-- how often the entries of a grid may still be raised
abbrev pub room : List Entry → ℕ
room g = sum_by rises_left g

-- every closed table holds these ages at this number
pub record IsNeeded (u : Setup) (sp : Span) (i : ℕ) (a : Ages) : Type 0 where
  pub needed : (f : ℕ → Entry) → IsClosedAt u sp f → IsHeldBy a (f i)

-- the first sweep on its way: the start is there; what a row leads to is there, unless the row waits; and no more is there
-- than in every closed table
pub record Sweep (u : Setup) (sp : Span) (g : List Entry) (waiting : List ℕ) : Type 0 where
  pub size : length g ≡ contexts_of sp
  pub near : (i : ℕ) → Among i waiting → i < contexts_of sp
  pub begins : IsHeldBy Empty (at g (number_of (followed sp) (start_context u sp)))
  pub steps : (i : ℕ) (a : Ages) → i < contexts_of sp → at g i ≡ Present a → Among i waiting ⊎ AreHeld (followed sp) (at g) (nexts_at u sp i a)
  pub least : (f : ℕ → Entry) → IsClosedAt u sp f → (i : ℕ) → i < contexts_of sp → Below (at g i) (f i)

-- the same while the nexts of a row are looked at, of which these are done
pub record SweepAtRow (u : Setup) (sp : Span) (g : List Entry) (waiting : List ℕ) (i : ℕ) (a : Ages) (done : List Next) : Type 0 where
  pub sweep : Sweep u sp g (i ∷ waiting)
  pub row : IsNeeded u sp i a
  pub held : AreHeld (followed sp) (at g) done
  pub same : (at g i ≡ Present a) ⊎ Among i waiting

-- its end
pub record IsReach (u : Setup) (sp : Span) (g : List Entry) : Type 0 where
  pub sweep : Sweep u sp g []

-- what a raise leaves: an entry that holds the ages stays, else it is raised and its number waits
abbrev pub Raised : (i : ℕ) → Ages → (g new_g : List Entry) (w new_w : List ℕ) → Type 0
Raised i a g new_g w new_w = MatchBool (holds a (at g i)) ((new_g ≡ g) × (new_w ≡ w)) ((new_g ≡ slice_set g i (Present (zeroed a))) × (new_w ≡ w ++ i ∷ []))
