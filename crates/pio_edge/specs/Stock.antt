-- What a shelf in memory is: the files that it holds, and which of its fetches fail.
use Rattle.std.specs.Prelude.{◌≡◌, ℕ, Bool, true, false, ◌==◌, Option, None, List, Result, Ok, Err, if◌then◌else◌, refl}
use Rattle.std.specs.Option.{is_none}
use Rattle.std.specs.List.{list_any}
use Rattle.std.specs.Coded.{Coded, code_by, coded×, coded_ℕ, coded_list}
use Rattle.std.specs.FinMap.{get, code}
use Rattle.pio_edge.specs.Edge.{Files}
use Rattle.pio_edge.specs.declared.shelf.Fetch.{Fetch}
use Rattle.pio_edge.specs.declared.shelf.Fetch.TheVariants.{Failed, Memory}
use Rattle.pio_edge.specs.Count.{Faults, faults_code, one_more, after_fetch}
use Rattle.pio_edge.specs.Fetched.{Fetched, fetched_code, after_fetching}

-- the files, the numbers of the fetches that fail, how many calls there were, the faults, and the fetches that gave a file or failed
pub record Stock : Type 0 where
  pub files : Files
  pub fails : List ℕ
  pub calls : ℕ
  pub faults : Faults
  pub fetched : List Fetched

-- files are stored as their entries
abbrev pub files_code : Coded Files
files_code = code (coded_list coded_ℕ) (coded_list coded_ℕ)

-- a stock is stored as the tuple of its fields
abbrev pub stock_code : Coded Stock
stock_code =
    code_by
    (Files × (List ℕ × (ℕ × (Faults × List Fetched))))
    (coded× files_code (coded× (coded_list coded_ℕ) (coded× coded_ℕ (coded× faults_code fetched_code))))
    (λ s. (s.files, (s.fails, (s.calls, (s.faults, s.fetched)))))
    (λ p. record { files = p.0; fails = p.1.0; calls = p.1.1.0; faults = p.1.1.1.0; fetched = p.1.1.1.1 })
    (λ _. refl)

-- what a call finds of what is held: nothing where its number is listed
abbrev pub found_at : List ℕ → ℕ → Option (List ℕ) → Option (List ℕ)
found_at fails call held = if list_any (λ n. n == call) fails then None else held

-- whether the next fetch fails: its number, from 1 on, is listed, or nothing is held under the name
abbrev pub fetch_fails : Stock → List ℕ → Bool
fetch_fails s name = is_none (found_at s.fails (one_more s.calls) (get s.files name))

-- the shelf after a fetch that answered so: one more call, one more fault where it failed, and one more fetch unless memory ran out
abbrev pub after_call : {T : Type 0} → List ℕ → ℕ → Result T Fetch → Stock → Stock
after_call name cap result s = record s {
  calls = one_more s.calls;
  faults = after_fetch name result s.faults;
  fetched = after_fetching name cap result s.fetched;
}

-- what a fetch answers besides want of memory: a file exactly where the fetch isn't to fail
abbrev pub FetchesUnless : {T : Type 0} → Bool → Result T Fetch → Type 0
FetchesUnless fails (Ok _) = fails ≡ false
FetchesUnless fails (Err Failed) = fails ≡ true
FetchesUnless fails (Err Memory) = Unit {0}
