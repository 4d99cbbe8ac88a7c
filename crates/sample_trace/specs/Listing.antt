-- What a list trace keeps, and what a call leaves of it.
use Rattle.std.specs.Prelude.{ℕ, Bool, true, List, length, nat_le, if◌then◌else◌}
use Rattle.pio_edge.specs.Count.{one_more}
use Rattle.block_core.specs.declared.sample.Sample.{Sample}

-- the samples told, how many it keeps at most, whether a call failed, and how many calls failed
pub record Listing : Type 0 where
  pub samples : List Sample
  pub room : ℕ
  pub failed : Bool
  pub faults : ℕ

-- whether a call passes that is to leave these samples: there is room for them
abbrev pub has_room : Listing → List Sample → Bool
has_room t told = nat_le (length told) t.room

-- the trace after a call that is to leave these samples
abbrev pub after_call : Listing → List Sample → Listing
after_call t told = if has_room t told then record t { samples = told } else record t { failed = true; faults = one_more t.faults }
