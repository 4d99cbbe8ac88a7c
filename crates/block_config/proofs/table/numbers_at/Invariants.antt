use Rattle.std.proofs.Common.{◌≡◌, length, map, drop}
use Rattle.toml.specs.View.{table_view}
use Rattle.block_config.specs.Keys.{described}
use Rattle.block_config.specs.Tables.{each_at, number_at}
use Rattle.block_config.proofs.Each.{before}
use Rattle.block_config.proofs.table.numbers_at.Given as goal

-- the numbers so far come before those of the keys that are left
abbrev pub invariant-loop-key : goal.invariant-loop-key
invariant-loop-key l =
    let read = number_at (table_view l.table) in
    (length l.numbers.items ≡ l.key-index) × (each_at read (map described l.keys) ≡ before l.numbers.items (each_at read (map described (drop l.key-index l.keys))))
