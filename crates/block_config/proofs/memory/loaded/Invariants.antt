use Rattle.std.proofs.Common.{◌≡◌, ℕ, ◌<◌, length, get_or, unwrap_or}
use Rattle.block_config.specs.Memory.{word_at}
use Rattle.block_config.proofs.memory.loaded.Given as goal

-- the addresses so far hold the program's words, and what was there where it has none
abbrev pub invariant-loop-address : goal.invariant-loop-address
invariant-loop-address l =
    (length l.after ≡ 32) × ((k : ℕ) → k < l.address → get_or l.after k 0 ≡ unwrap_or (word_at l.first l.words k) (get_or l.memory k 0))
