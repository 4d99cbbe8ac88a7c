-- The samples that a trace was told of, or the pairs of samples of two blocks: a list with one for each clock from 0 on.
use Rattle.std.specs.Prelude.{◌≡◌, ℕ, ◌-◌, ◌≤◌, List, [], ◌∷◌, ◌++◌, length, replicate}

-- the clock comes after all samples told, and is 0 where none was
pub record IsNext {T : Type 0} (told : List T) (clock : ℕ) : Type 0 where
  pub after : length told ≤ clock
  pub first : length told ≡ 0 → clock ≡ 0

-- the last of a sample and those after it
abbrev pub last_of : {T : Type 0} → T → List T → T
last_of s [] = s
last_of s (t ∷ rest) = last_of t rest

-- the samples of all clocks before this one: the last sample again for each clock that was left out
abbrev pub held_to : {T : Type 0} → ℕ → List T → List T
held_to clock [] = []
held_to clock (s ∷ rest) = (s ∷ rest) ++ replicate (clock - length (s ∷ rest)) (last_of s rest)

-- the samples up to this clock, whose own is given
abbrev pub told_at : {T : Type 0} → ℕ → T → List T → List T
told_at clock s told = held_to clock told ++ s ∷ []
