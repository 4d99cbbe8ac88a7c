-- Machines placed one after the other.
use Rattle.std.proofs.Common.{◌≡◌, ℕ, ◌+◌, ◌<◌, ◌≤◌, Option, Some, List, Result, Ok, Err, map, option_map, drop, length, get_or, slice_set, refl, ◌∙◌}
use Rattle.std.proofs.lemmas.List.{map-set, drop_all}
use Rattle.pin_matrix.specs.declared.machine.MachineSetup.{MachineSetup}
use Rattle.pin_matrix.specs.declared.setup.Setup.{Setup}
use Rattle.pin_matrix.specs.Placing.{HasRestOf}
use Rattle.toml.specs.declared.value.Value.{Value}
use Rattle.toml.specs.View.{view, items_view}
use Rattle.toml.proofs.Views.{items_view-drop}
use Rattle.answers.specs.Answers.{Refuses}
use Rattle.block_config.specs.Answer.{ConfigRefusal, told}
use Rattle.setup_keys.specs.Block.{MachineKeys, keys_of_machine}
use Rattle.block_config.specs.Programs.{Loaded}
use Rattle.block_config.specs.declared.fault.ConfigFault.{ConfigFault}
use Rattle.block_config.specs.declared.fault.ConfigFault.TheVariants.{Memory, At}
use Rattle.block_config.specs.Machines.{machine_in, machines_from}

abbrev pub all_keys : List (Option MachineSetup) → List (Option MachineKeys)
all_keys = map (option_map keys_of_machine)

pub keys_set : (ms : List (Option MachineSetup)) (i : ℕ) (m : MachineSetup) → all_keys (slice_set ms i (Some m)) ≡ slice_set (all_keys ms) i (Some (keys_of_machine m))
keys_set ms i m = map-set (option_map keys_of_machine) ms i (Some m)

pub place_more : (loads : List Loaded) (vs : List Value) (i : ℕ) (d : Value) (ms after : List (Option MachineSetup)) (m : MachineSetup) (all : Result (List (Option MachineKeys)) ConfigRefusal)
    → all ≡ machines_from i (all_keys ms) loads (items_view (drop i vs)) → i < length vs → machine_in i (all_keys ms) loads (view (get_or vs i d)) ≡ Ok (keys_of_machine m)
    → after ≡ slice_set ms m.id (Some m)
    → all ≡ machines_from (i + 1) (all_keys after) loads (items_view (drop (i + 1) vs))
unfolding machines_from
place_more loads vs i d ms after m all so_far within found set =
    so_far ∙ rw (items_view-drop vs i d within, found, set, keys_set ms m.id m) refl

pub place_fails : (loads : List Loaded) (vs : List Value) (i : ℕ) (d : Value) (ms : List (Option MachineSetup)) (e : ConfigRefusal) (all : Result (List (Option MachineKeys)) ConfigRefusal)
    → all ≡ machines_from i (all_keys ms) loads (items_view (drop i vs)) → i < length vs → machine_in i (all_keys ms) loads (view (get_or vs i d)) ≡ Err e
    → all ≡ Err e
unfolding machines_from
place_fails loads vs i d ms e all so_far within found = so_far ∙ rw (items_view-drop vs i d within, found) refl

pub place_ends : (loads : List Loaded) (vs : List Value) (i : ℕ) (ms : List (Option MachineSetup)) (all : Result (List (Option MachineKeys)) ConfigRefusal)
    → all ≡ machines_from i (all_keys ms) loads (items_view (drop i vs)) → length vs ≤ i → all ≡ Ok (all_keys ms)
unfolding machines_from
place_ends loads vs i ms all so_far past = so_far ∙ rw (drop_all i vs past) refl

-- a fault of a part is one of the whole
pub refuses_on : {X Y : Type 0} (fault : ConfigFault) (r : Result X ConfigRefusal) (s : Result Y ConfigRefusal) → ((e : ConfigRefusal) → r ≡ Err e → s ≡ Err e) → Refuses (told fault) r → Refuses (told fault) s
refuses_on Memory r s on h = tt
refuses_on (At key kind) r s on h = on (record { key = key; kind = kind }) h

pub rest_kept : (a b c : Setup) → HasRestOf b a → HasRestOf c b → HasRestOf c a
rest_kept a b c h k = record {
  memory = k.memory ∙ h.memory;
  high = k.high ∙ h.high;
  level = k.level ∙ h.level;
  out = k.out ∙ h.out;
  bypass = k.bypass ∙ h.bypass;
  spans = k.spans ∙ h.spans;
}
