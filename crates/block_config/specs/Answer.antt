-- The faults of a configuration as definitions compute them, and what a returned fault says of them.
--   ConfigRefusal  a fault as a definition computes it
--   Tells          a fault is of this kind and is at this path
--   told           the fault that is returned, nothing where memory ran out
use Rattle.std.specs.Prelude.{◌≡◌, ℕ, List, Option, Some, None, Result, Err}
use Rattle.block_config.specs.declared.fault.ConfigFault.{ConfigFault}
use Rattle.block_config.specs.declared.fault.ConfigFault.TheVariants.{Memory, At}
use Rattle.block_config.specs.declared.fault.ConfigKind.{ConfigKind}

-- a fault: the path of its key and its kind
pub record ConfigRefusal : Type 0 where
  pub key : List ℕ
  pub kind : ConfigKind

-- a fault, unless memory ran out
abbrev pub refused : {X : Type 0} → List ℕ → ConfigKind → Result X ConfigRefusal
refused key kind = Err (record { key = key; kind = kind })

-- a fault is at this path and is of this kind
abbrev pub Tells : ConfigFault → List ℕ → ConfigKind → Type 0
Tells Memory path kind = Unit {0}
Tells (At key found) path kind = (key ≡ path) × (found ≡ kind)

-- the fault that is returned, nothing where memory ran out
abbrev pub told : ConfigFault → Option ConfigRefusal
told Memory = None
told (At key kind) = Some (record { key = key; kind = kind })
