-- That a machine at the place of its number keeps all at theirs.
use Rattle.std.proofs.Common.{◌≡◌, ℕ, ◌+◌, ◌==◌, true, zero, suc, Option, Some, None, List, [], ◌∷◌, slice_set, arith}
use Rattle.std.proofs.lemmas.Bool.{and_from, and_parts}
use Rattle.std.proofs.lemmas.Bool.Decides.{nat_tests}
use Rattle.pin_matrix.specs.Setups.{ids_are_places}
use Rattle.pin_matrix.specs.declared.machine.MachineSetup.{MachineSetup}

is_own : (place : ℕ) (machine : MachineSetup) → machine.id ≡ place + 0 → (machine.id == place) ≡ true
is_own place machine own = grind (arith, nat_tests)

pub ids_are_places-set : (place k : ℕ) (machine : MachineSetup) (machines : List (Option MachineSetup)) → machine.id ≡ place + k → ids_are_places place machines ≡ true → ids_are_places place (slice_set machines k (Some machine)) ≡ true
ids_are_places-set place k machine [] own fine = fine
ids_are_places-set place zero machine (None ∷ machines) own fine = and_from (machine.id == place) _ (is_own place machine own) fine
ids_are_places-set place zero machine (Some other ∷ machines) own fine =
    and_from (machine.id == place) _ (is_own place machine own) (and_parts (other.id == place) (ids_are_places (place + 1) machines) fine).1
ids_are_places-set place (suc k) machine (None ∷ machines) own fine = ids_are_places-set (place + 1) k machine machines (omega arith) fine
ids_are_places-set place (suc k) machine (Some other ∷ machines) own fine =
    let parts = and_parts (other.id == place) (ids_are_places (place + 1) machines) fine in
    and_from (other.id == place) _ parts.0 (ids_are_places-set (place + 1) k machine machines (omega arith) parts.1)
