-- Writes of no pins.
use Rattle.pin_matrix.proofs.Merging.{IsWrite-none, merged-none}
use Rattle.pin_matrix.proofs.laws.no_write_changes_nothing.Goals as goal

pub returns : goal.returns
returns c = record { write = IsWrite-none; pins = merged-none }
