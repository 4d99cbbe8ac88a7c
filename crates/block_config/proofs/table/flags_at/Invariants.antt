use Rattle.std.proofs.Common.{◌≡◌, length, map, drop}
use Rattle.toml.specs.View.{table_view}
use Rattle.block_config.specs.Keys.{flag_described}
use Rattle.block_config.specs.Tables.{each_at, flag_at}
use Rattle.block_config.proofs.Each.{before}
use Rattle.block_config.proofs.table.flags_at.Given as goal

-- the flags so far come before those of the keys that are left
abbrev pub invariant-loop-key : goal.invariant-loop-key
invariant-loop-key l =
    let read = flag_at (table_view l.table) in
    (length l.flags.items ≡ l.key-index) × (each_at read (map flag_described l.keys) ≡ before l.flags.items (each_at read (map flag_described (drop l.key-index l.keys))))
