-- One feed of machine 0, which begins in clock 0.
--   fed              the stimulus
--   IsSupplied       by ticks, TX has a word wherever one is left
use Rattle.std.specs.Prelude.{◌≡◌, ℕ, ◌+◌, ◌≤◌, Option, option_to_list, List, [], ◌∷◌, ◌++◌, slice_get}
use Rattle.dreq_pacing.specs.declared.line.LineAct.TheVariants.{Feed}
use Rattle.dreq_pacing.specs.declared.line.Line.{Line}

-- From clock 0 on a feed writes these words to the TX of machine 0, one a clock where there is room. There is no feed
-- of no words.
abbrev pub fed : List ℕ → List Line
fed [] = []
fed (word ∷ words) = record { clock = 0; act = Feed 0 1 (word ∷ words) } ∷ []

-- A machine that takes these words at its ticks, in order, by the word that it takes at each tick and what TX holds then: from
-- tick 1 on TX has a word wherever one is left.
pub record IsSupplied (words : List ℕ) (taken : ℕ → Option ℕ) (tx : ℕ → List ℕ) : Type 0 where
  -- the words that are left at the start of each tick
  pub left : ℕ → List ℕ
  pub first : left 0 ≡ words
  pub goes : (t : ℕ) → option_to_list (taken t) ++ left (t + 1) ≡ left t
  pub front : (t : ℕ) → 1 ≤ t → slice_get (tx t) 0 ≡ slice_get (left t) 0
