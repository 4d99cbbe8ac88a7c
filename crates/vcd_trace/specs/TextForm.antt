-- Texts of what is shown clock by clock, by what their parts add.
--   TextForm      how such a text begins, goes on and closes
--   later_text    what things add after another
--   opened_text   the text of some, without what closes it
--   whole_text    the whole text of some
--   told_text     one of the two
--   HasPut        a sink has taken the text of some, and the last one is remembered
--   added, ended  what one more adds, and what the end adds
use Rattle.std.specs.Prelude.{◌≡◌, ℕ, ◌+◌, Bool, true, false, Option, Some, None, List, [], ◌∷◌, ◌++◌, length, is_some, if◌then◌else◌}
use Rattle.pio_edge.specs.Edge.{with_bytes}
use Rattle.sample_trace.specs.Told.{last_of}

-- What comes before the first thing shown, what the first one adds, what a later one adds in its clock after the one before, and
-- what closes the text in the clock after the last one.
pub record TextForm (T : Type 0) : Type 0 where
  pub head : List ℕ
  pub first : T → List ℕ
  pub later : ℕ → T → T → List ℕ
  pub closing : ℕ → List ℕ

-- what these add from this clock on, after the one of the clock before
abbrev pub later_text : {T : Type 0} → TextForm T → ℕ → T → List T → List ℕ
later_text f clock before [] = []
later_text f clock before (now ∷ rest) = f.later clock before now ++ later_text f (clock + 1) now rest

-- the text of these from clock 0 on, without what closes it
abbrev pub opened_text : {T : Type 0} → TextForm T → List T → List ℕ
opened_text f [] = f.head
opened_text f (s ∷ rest) = f.head ++ f.first s ++ later_text f 1 s rest

-- what closes it, where there is one
abbrev pub closing_text : {T : Type 0} → TextForm T → List T → List ℕ
closing_text f [] = []
closing_text f (s ∷ rest) = f.closing (length (s ∷ rest))

-- the whole text of these from clock 0 on
abbrev pub whole_text : {T : Type 0} → TextForm T → List T → List ℕ
whole_text f told = opened_text f told ++ closing_text f told

-- the text after these, with what closes it where they have ended
abbrev pub told_text : {T : Type 0} → TextForm T → List T → Bool → List ℕ
told_text f told true = whole_text f told
told_text f told false = opened_text f told

-- the last of these, where there is one
abbrev pub last_told : {T : Type 0} → List T → Option T
last_told [] = None
last_told (s ∷ rest) = Some (last_of s rest)

-- after what was taken before, the sink has taken the text of these, and their last one is remembered
pub record HasPut {T : Type 0} (f : TextForm T) (before : Option (List ℕ)) (told : List T) (ended : Bool) (taken : Option (List ℕ)) (last : Option T) : Type 0 where
  pub text : taken ≡ with_bytes before (told_text f told ended)
  pub remembered : last ≡ last_told told

-- what one more adds to the text, after the last one
abbrev pub added : {T : Type 0} → TextForm T → ℕ → Option T → T → List ℕ
added f clock None now = f.first now
added f clock (Some before) now = f.later clock before now

-- what the end adds to the text, after the last one
abbrev pub ended : {T : Type 0} → TextForm T → ℕ → Option T → List ℕ
ended f clock last = if is_some last then f.closing clock else []
