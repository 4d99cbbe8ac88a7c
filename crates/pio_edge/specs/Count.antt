-- What a count of faults is that 64 bits keep, and how the calls of the edge raise it.
use Rattle.std.specs.Prelude.{ℕ, ◌+◌, ◌-◌, ◌^◌, min, Option, Some, List, Result, Ok, Err, refl}
use Rattle.std.specs.Coded.{Coded, code_by, coded×, coded_ℕ, coded_option, coded_list}
use Rattle.pio_edge.specs.declared.shelf.Fetch.{Fetch}
use Rattle.pio_edge.specs.declared.shelf.Fetch.TheVariants.{Failed, Memory}

-- one more, up to the last value that 64 bits keep
abbrev pub one_more : ℕ → ℕ
one_more count = min (count + 1) (2 ^ 64 - 1)

-- the count after a call of a sink: one more exactly where it failed
abbrev pub call_faults : {T E : Type 0} → ℕ → Result T E → ℕ
call_faults before (Ok _) = before
call_faults before (Err _) = one_more before

-- how many fetches of a shelf failed, and the name of the last one that did
pub record Faults : Type 0 where
  pub count : ℕ
  pub last : Option (List ℕ)

-- one fault more, at the fetch of this name
abbrev pub failed_at : List ℕ → Faults → Faults
failed_at name before = record { count = one_more before.count; last = Some name }

-- faults are stored as the pair of their fields
abbrev pub faults_code : Coded Faults
faults_code =
    code_by (ℕ × Option (List ℕ)) (coded× coded_ℕ (coded_option (coded_list coded_ℕ))) (λ f. (f.count, f.last))
    (λ p. record { count = p.0; last = p.1 }) (λ _. refl)

-- the faults after a fetch of this name that gave no file: one more where it answered Failed
abbrev pub after_answer : List ℕ → Fetch → Faults → Faults
after_answer name Memory before = before
after_answer name Failed before = failed_at name before

-- the faults after a fetch of this name: one more exactly where it answered Failed
abbrev pub after_fetch : {T : Type 0} → List ℕ → Result T Fetch → Faults → Faults
after_fetch name (Ok _) before = before
after_fetch name (Err why) before = after_answer name why before
