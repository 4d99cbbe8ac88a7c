-- What the edge promises: files as a map from names to bytes, what a sink has taken, and counts of faults.
use Rattle.std.specs.Prelude.{◌≡◌, ℕ, ◌≤◌, Option, Some, List, ◌++◌, length, take, Result, OnOk, OnErr, IfSome, MatchResult}
use Rattle.std.specs.Option.{option_map}
use Rattle.std.specs.Ordering.{nat_cmp}
use Rattle.std.specs.Cmp.Lexicographic.{slice_cmp}
use Rattle.std.specs.FinMap.{FinMap, get}
use Rattle.pio_edge.specs.Count.{one_more}

-- a count is greater than before, or is the last value that 64 bits keep
abbrev pub Rose : ℕ → ℕ → Type 0
Rose before now = one_more before ≤ now

-- how a put or a finish counts: never down, as it was at Ok, up at a failure
pub record PutCounts {T E : Type 0} (before now : ℕ) (result : Result T E) : Type 0 where
  pub later : before ≤ now
  pub ok : OnOk result (now ≡ before)
  pub failed : OnErr result (Rose before now)

-- files by name: bytes under the bytes of a name
abbrev pub Files : Type 0
Files = FinMap (slice_cmp nat_cmp) (List ℕ)

-- where the files are told, the bytes are the first cap of those under the name
abbrev pub IsFetched : Option Files → List ℕ → ℕ → List ℕ → Type 0
IsFetched files name cap bytes = IfSome files (λ f. (all : List ℕ) × (get f name ≡ Some all) × (bytes ≡ take cap all))

-- what was taken, with more bytes after it, where it is told
abbrev pub with_bytes : Option (List ℕ) → List ℕ → Option (List ℕ)
with_bytes taken bytes = option_map (λ t. t ++ bytes) taken

-- some first part of the bytes was taken
pub record TakesPrefix (old : Option (List ℕ)) (bytes : List ℕ) (new : Option (List ℕ)) : Type 0 where
  pub count : ℕ
  pub within : count ≤ length bytes
  pub taken : new ≡ with_bytes old (take count bytes)

-- at Ok all the bytes were taken, else a first part of them
abbrev pub Takes : {T E : Type 0} → Option (List ℕ) → List ℕ → Option (List ℕ) → Result T E → Type 0
Takes old bytes new result = MatchResult result (λ _. new ≡ with_bytes old bytes) (λ _. TakesPrefix old bytes new)
