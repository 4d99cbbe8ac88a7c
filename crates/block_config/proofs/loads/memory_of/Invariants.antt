use Rattle.std.proofs.Common.{◌≡◌, map, drop}
use Rattle.block_config.specs.Loads.{loaded_of, memory_of}
use Rattle.block_config.specs.Memory.{no_words}
use Rattle.block_config.proofs.loads.memory_of.Given as goal

-- the loads that are left go on from the memory so far
abbrev pub invariant-loop-load : goal.invariant-loop-load
invariant-loop-load l = memory_of no_words (map loaded_of l.loads) ≡ memory_of l.memory (map loaded_of (drop l.load-index l.loads))
