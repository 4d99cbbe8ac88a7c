-- What is asked of a setup before its spans are.
use Rattle.std.specs.Prelude.{None, IsSome, slice_index_or}
use Rattle.std.specs.List.{AllByRecursion}
use Rattle.pin_matrix.specs.declared.setup.Setup.{Setup}

-- the machine of each span is configured
abbrev pub AreConfigured : Setup → Type 0
AreConfigured u = AllByRecursion (λ sp. IsSome (slice_index_or u.machines sp.machine None)) u.spans
