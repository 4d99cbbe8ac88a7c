-- What a machine runs is made of: its number, its load and its start.
use Rattle.std.proofs.Common.{◌≡◌, Option, Ok, List, subst}
use Rattle.toml.specs.Data.{Members}
use Rattle.setup_keys.specs.Block.{MachineKeys}
use Rattle.block_config.specs.Machines.{id_at, load_at, start_at, RunKeys, run_at}
use Rattle.block_config.specs.Programs.{Loaded}
use Rattle.block_config.specs.Tables.{and_then}
use Rattle.block_config.proofs.Ranges.{goes_on, ok_same}

-- the parts of where a machine runs
pub record RunParts (machines : List (Option MachineKeys)) (loads : List Loaded) (t : Members) (run : RunKeys) : Type 0 where
  pub id_found : id_at machines t ≡ Ok run.id
  pub load_found : load_at loads t ≡ Ok run.load
  pub start_found : start_at run.load t ≡ Ok run.start

pub run_parts : (machines : List (Option MachineKeys)) (loads : List Loaded) (t : Members) (run : RunKeys)
    → run_at machines loads t ≡ Ok run → RunParts machines loads t run
run_parts machines loads t run e =
    let id = goes_on (id_at machines t) (λ id. and_then (load_at loads t) (λ load. and_then (start_at load t) (λ start.
    Ok (record { id = id; load = load; start = start })))) run e in
    let load = goes_on (load_at loads t) (λ load. and_then (start_at load t) (λ start.
    Ok (record { id = id.value; load = load; start = start }))) run id.rest in
    let start = goes_on (start_at load.value t) (λ start.
    Ok (record { id = id.value; load = load.value; start = start })) run load.rest in
    subst (RunParts machines loads t) (ok_same (record { id = id.value; load = load.value; start = start.value }) run start.rest)
    (record { id_found = id.found; load_found = load.found; start_found = start.found })
