-- What a shelf was asked for, and whether it gave it.
use Rattle.std.specs.Prelude.{ℕ, Bool, true, false, List, [], ◌∷◌, ◌++◌, Result, Ok, Err, refl}
use Rattle.std.specs.Coded.{Coded, code_by, coded×, coded_ℕ, coded_bool, coded_list}
use Rattle.pio_edge.specs.declared.shelf.Fetch.{Fetch}
use Rattle.pio_edge.specs.declared.shelf.Fetch.TheVariants.{Failed, Memory}

-- a fetch that gave a file or failed: the name that was asked for, how many bytes at most, and whether the file came
pub record Fetched : Type 0 where
  pub name : List ℕ
  pub cap : ℕ
  pub came : Bool

-- such fetches are stored as the tuples of their fields
abbrev pub fetched_code : Coded (List Fetched)
fetched_code =
    coded_list
    (code_by (List ℕ × (ℕ × Bool)) (coded× (coded_list coded_ℕ) (coded× coded_ℕ coded_bool)) (λ f. (f.name, (f.cap, f.came)))
    (λ p. record { name = p.0; cap = p.1.0; came = p.1.1 }) (λ _. refl))

-- the fetches with one more, in order
abbrev pub with_fetch : List ℕ → ℕ → Bool → List Fetched → List Fetched
with_fetch name cap came before = before ++ record { name = name; cap = cap; came = came } ∷ []

-- the fetches after one that gave no file: want of memory is none
abbrev pub after_no_file : List ℕ → ℕ → Fetch → List Fetched → List Fetched
after_no_file name cap Failed before = with_fetch name cap false before
after_no_file name cap Memory before = before

-- the fetches after one of this name, of so many bytes at most
abbrev pub after_fetching : {T : Type 0} → List ℕ → ℕ → Result T Fetch → List Fetched → List Fetched
after_fetching name cap (Ok _) before = with_fetch name cap true before
after_fetching name cap (Err why) before = after_no_file name cap why before
